-- The first identifier that is repeated, one after another.
use Rattle.pg_game.proofs.Common.{◌≡◌, ℕ, ◌+◌, ◌<◌, true, false, List, [], ◌∷◌, ◌++◌, length, take, drop, get_or, refl, sym, ◌∙◌, ap, nat_eq, rules, Some}
use Rattle.pg_game.proofs.Common.{◌==◌, list_any, eqb-true, eq-eqb, false_from_ne_true, cases_Bool, take_more, drop_more, first_repeated}
use Rattle.std.specs.Prelude.{reverse}
use Rattle.std.proofs.lemmas.List.{reverse-append}
use Rattle.std.proofs.lemmas.List.Sorted.{IsPermutation-reverse, list_any-IsPermutation}

-- the first identifiers, the newest first
abbrev pub earlier : List ℕ → ℕ → List ℕ
earlier ids i = reverse (take i ids)

pub eqb_flip : (a b : ℕ) → (a == b) ≡ nat_eq b a
eqb_flip a b = search (rules, cases_Bool, nat_eq, eq-eqb, eqb-true, false_from_ne_true)

flipped : (n : ℕ) (xs : List ℕ) → list_any (λ m. m == n) xs ≡ list_any (nat_eq n) xs
flipped n [] = refl
flipped n (x ∷ xs) = rw (eqb_flip x n, flipped n xs) refl

module _ (ids : List ℕ) (i : ℕ) (l : i < length ids) where
  abbrev id : ℕ
  id = get_or ids i 0

  next_id : drop i ids ≡ id ∷ drop (i + 1) ids
  next_id = drop_more ids i 0 l

  pub one_more : take (i + 1) ids ≡ take i ids ++ get_or ids i 0 ∷ []
  one_more = take_more ids i 0 l

  -- the two tests for an earlier identifier
  same_test : list_any (λ m. m == id) (earlier ids i) ≡ list_any (nat_eq id) (take i ids)
  same_test = sym (list_any-IsPermutation (λ m. m == id) (take i ids) (earlier ids i) (IsPermutation-reverse (take i ids))) ∙ flipped id (take i ids)

  pub repeated_here : list_any (nat_eq (get_or ids i 0)) (take i ids) ≡ true → first_repeated (earlier ids i) (drop i ids) ≡ Some (get_or ids i 0)
  repeated_here t = rw (next_id, same_test, t) refl

  pub repeated_later : list_any (nat_eq (get_or ids i 0)) (take i ids) ≡ false →
      first_repeated (earlier ids i) (drop i ids) ≡ first_repeated (earlier ids (i + 1)) (drop (i + 1) ids)
  repeated_later f = rw (next_id, same_test, f, ap (λ (xs : List ℕ). reverse xs) one_more ∙ reverse-append (take i ids) (id ∷ [])) refl
