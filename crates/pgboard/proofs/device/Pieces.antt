-- What reading and writing in pieces does to known bytes, and what a failure does to a count.
use Rattle.pgboard.proofs.Common.{rules, ◌≡◌, ℕ, ◌+◌, ◌-◌, List, ◌++◌, length, take, drop, Option, ◌∙◌, subst, arith, append_assoc, take_rest, take-take}
use Rattle.pgboard.proofs.Common.{drop-take, Consumes, Appends}
use Rattle.std.proofs.Common.{take-append-drop}
use Rattle.std.proofs.KnownBytes.{Appends-trans, Consumes-trans}

-- one more piece was taken, of n bytes
pub wrote_more : (a b c : Option (List ℕ)) (all prefix rest : List ℕ) (n : ℕ) → all ≡ prefix ++ rest → Appends a b prefix
    → Appends b c (take n rest) → (more : List ℕ) × (all ≡ more ++ take (length rest - n) (drop n rest)) × Appends a c more
wrote_more a b c all prefix rest n e p q = search (rules, take_rest, take-append-drop, append_assoc, Appends-trans)

-- what is filled grows by what was read after it
pub filled_more : (a b c : Option (List ℕ)) (xs ys : List ℕ) (f n : ℕ) → take f ys ≡ take f xs → Consumes a b (take f xs)
    → Consumes b c (take n (drop f ys)) → Consumes a c (take (f + n) ys)
filled_more a b c xs ys f n prefix before read =
    let earlier : take f (take (f + n) ys) ≡ take f xs = take-take f (f + n) ys (omega arith) ∙ prefix in
    let whole : take f xs ++ take n (drop f ys) ≡ take (f + n) ys = rw (← earlier, ← drop-take f n ys) (take-append-drop f (take (f + n) ys)) in
    subst (Consumes a c) whole (Consumes-trans a b c _ _ before read)
