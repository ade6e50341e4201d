-- Runs of bytes that pass a test.
use Rattle.pg_text.proofs.Common.{◌≡◌, ℕ, ◌+◌, ◌*◌, ◌-◌, ◌^◌, ◌<◌, ◌≤◌, Bool, true, false, List, [], ◌∷◌, ◌++◌, length, get_or, refl, ◌∙◌, ap, arith}
use Rattle.pg_text.proofs.Common.{append_assoc, length-append, rules, cases_lt, leb-true, drop_more, AllAre, is_digit, value_of, IsRun}
use Rattle.std.proofs.Common.{add-one}
use Rattle.pg_game.proofs.AllElements.{all-append}
use Rattle.std.specs.Prelude.{fold, ◌&&◌, nat_le}
use Rattle.std.proofs.Math.Nat.{pow-succ'}

pub AllAre-append : (test : ℕ → Bool) (xs ys : List ℕ) → AllAre test xs → AllAre test ys → AllAre test (xs ++ ys)
AllAre-append test xs ys a b = all-append (λ x. test x ≡ true) xs ys a b

pub run_more : (test : ℕ → Bool) (text : List ℕ) (from to : ℕ) (run : List ℕ) → IsRun test text from to run → to < length text
    → test (get_or text to 0) ≡ true → IsRun test text from (to + 1) (run ++ get_or text to 0 ∷ [])
run_more test text from to run r h p = search (rules, r.split, drop_more, append_assoc, AllAre-append, r.passes, r.end, length-append)

pub fold-push : (ds : List ℕ) (n d : ℕ) → fold (λ n d. 10 * n + (d - 48)) n (ds ++ d ∷ []) ≡ 10 * fold (λ n d. 10 * n + (d - 48)) n ds + (d - 48)
fold-push [] n d = refl
fold-push (e ∷ ds) n d = fold-push ds (10 * n + (e - 48)) d

pub value-push : (ds : List ℕ) (d : ℕ) → value_of (ds ++ d ∷ []) ≡ 10 * value_of ds + (d - 48)
value-push ds d = fold-push ds 0 d

-- the value is the number, or both are above the limit
pub record Counts (value n : ℕ) : Type 0 where
  pub small : n ≤ 2147483647 → value ≡ n
  pub large : 2147483647 < n → 2147483647 < value
  pub bound : value < 2 ^ 40

-- one more digit, where the value so far is within the limit
pub counts_more : (value d n : ℕ) (ds : List ℕ) → Counts value (value_of ds) → value ≤ 2147483647 → d < 256 → n ≡ d - 48
    → Counts (value * 10 + n) (value_of (ds ++ d ∷ []))
counts_more value d n ds c h b e = search (rules, cases_lt, value-push)

-- digits of a number with so few of them
pub digits_more : (value k d n : ℕ) (ds : List ℕ) → value < 10 ^ k → value ≡ value_of ds → is_digit d ≡ true → n ≡ d - 48
    → (value * 10 + n < 10 ^ (k + 1)) × (value * 10 + n ≡ value_of (ds ++ d ∷ []))
digits_more value k d n ds b e t m =
    let low : d ≤ 57 = leb-true d 57 (and_right (nat_le 48 d) (nat_le d 57) t) in
    let p : 10 ^ (k + 1) ≡ 10 * 10 ^ k = ap (λ i. 10 ^ i) (add-one k) ∙ pow-succ' 10 k in
    (omega (arith, low, p, b, m), omega (arith, value-push ds d, e, m))
  where
    and_right : (x y : Bool) → (x && y) ≡ true → y ≡ true
    and_right true y h = h
    and_right false y h = absurd (cc h)
