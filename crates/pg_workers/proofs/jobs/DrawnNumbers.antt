-- What the tickets drew, put together.
use Rattle.pg_workers.proofs.Common.{rules, ◌≡◌, ℕ, ◌+◌, ◌<◌, List, [], ◌∷◌, ◌++◌, All, length, get_or, map, refl, ap, ◌∙◌, subst, arith, length-append, min}
use Rattle.pg_workers.proofs.Common.{append_assoc, append-nil, cond, count_by, sum_by, flat_map, common_steps, remove, map-append, sum_by-append, sum_by-cons}
use Rattle.pg_workers.proofs.Common.{times, once_below, HeldTicket, AreDrawn}
use Rattle.std.proofs.lemmas.List.Concat.{flat_map-append, length-flat_map}

module _ {X : Type 0} where
  pub remade : (xs rest : List X) (x : X) → 0 < length xs → x ≡ get_or xs 0 x → rest ≡ remove xs 0 → xs ≡ x ∷ rest
  remade xs rest x h e r = grind arith

  at_here : (ys zs : List X) (x : X) → get_or (ys ++ x ∷ zs) (length ys) x ≡ x
  at_here [] zs x = refl
  at_here (y ∷ ys) zs x = at_here ys zs x

  pub all_here : (P : X → Type 0) (ys zs : List X) (x : X) → All P (ys ++ x ∷ zs) → P x
  all_here P ys zs x h = let l = length-append ys (x ∷ zs) in subst P (at_here ys zs x) (h (length ys) x (omega arith))

  pub flat_map-push : {A : Type 0} (f : X → List A) (xs : List X) (x : X) → flat_map f (xs ++ x ∷ []) ≡ flat_map f xs ++ f x
  flat_map-push f xs x = flat_map-append f xs (x ∷ []) ∙ ap (λ l. flat_map f xs ++ l) (append-nil (f x))

  pub times-flat_map : (j : ℕ) (f : X → List ℕ) (xs : List X) → times j (flat_map f xs) ≡ sum_by (λ x. times j (f x)) xs
  times-flat_map j f [] = refl
  times-flat_map j f (x ∷ xs) = grind (arith, common_steps, times-flat_map j f xs, sum_by-append, cond, flat_map, sum_by-cons)

-- one more of both lists
pub listed-push : {X Y Z : Type 0} (f : X → Z) (g : Y → Z) (now was first : List X) (x : X) (ts : List Y) (t : Y) → now ≡ was ++ x ∷ []
    → map f was ≡ map f first ++ map g ts → f x ≡ g t → map f now ≡ map f first ++ map g (ts ++ t ∷ [])
listed-push f g now was first x ts t is h same = search (rules, map-append, append_assoc)

-- the lists of all tickets, by what the last seat knows
pub drawn_by_all : (total word none : ℕ) (drawn : List ℕ) (ts : List HeldTicket) → ((x : ℕ) → times x drawn ≡ once_below x (min total word))
    → length drawn ≡ min total word → word ≡ min total word + none → drawn ≡ flat_map (λ t. t.numbers) ts
    → none ≡ count_by (λ t. t.told_none) ts → AreDrawn total ts
drawn_by_all total word none drawn ts fair long steps is none_is = grind (arith, sum_by, times-flat_map, length-flat_map)
