-- No vertex is in two rows.
use Rattle.pg_board.proofs.Common.{rules, ◌≡◌, ℕ, Bool, true, false, List, [], ◌∷◌, ◌++◌, refl, sym, subst, All, IsDistinct, map-append, All-weaker}
use Rattle.pg_board.proofs.Common.{row_at}
use Rattle.pg_board.proofs.Common.{All-from_get_or, All-from_recursion, recursion_from_All, ClaimRows, named, is_unsettled, Journal, state_of, vertices}
use Rattle.std.specs.Prelude.{Option, nat_eq, flat_map, None}
use Rattle.std.proofs.lemmas.Bool.{ne_eqb}
use Rattle.std.proofs.lemmas.Map.Keys.{IsDistinct-cons, IsDistinct-head, IsDistinct-tail}
use Rattle.std.proofs.lemmas.List.Elements.{All-nil, All-head, All-tail, All-append, All-map}
use Rattle.pg_dominion.proofs.RowsByPlace.{named_at}

abbrev pub AllRows : Journal → ClaimRows
AllRows journal = flat_map (λ e. e.rows) journal

pub distinct-append : (mark : ℕ → Bool) (xs ys : List ℕ) → IsDistinct nat_eq xs → IsDistinct nat_eq ys → All (λ x. mark x ≡ false) xs
    → All (λ y. mark y ≡ true) ys → IsDistinct nat_eq (xs ++ ys)
distinct-append mark [] ys a b m n = b
distinct-append mark (x ∷ xs) ys a b m n =
    let differs = λ (y : ℕ). nat_eq x y ≡ false in
    let h = All-head (λ x. mark x ≡ false) x xs m in
    let other : All differs ys = All-weaker (λ y. mark y ≡ true) differs (λ y t. search (rules, ne_eqb, h)) ys n in
    let all = All-append differs xs ys (All-from_recursion differs xs (IsDistinct-head nat_eq x xs a)) other in
    IsDistinct-cons nat_eq x (xs ++ ys) (recursion_from_All differs (xs ++ ys) all)
    (distinct-append mark xs ys (IsDistinct-tail nat_eq x xs a) b (All-tail (λ x. mark x ≡ false) x xs m) n)

-- each vertex of the rows is named by them
pub each_named : (P : ℕ → Type 0) (rows : ClaimRows) → ((v : ℕ) → named rows v ≡ true → P v) → All P (vertices rows)
each_named P rows f =
    All-map P (λ (r : ℕ × Option ℕ). r.0) rows
    (All-from_get_or (λ (r : ℕ × Option ℕ). P r.0) rows (0, None) (λ i l. f (row_at rows i).0 (named_at rows i l)))

-- what a journal's rows name is settled
pub each_settled : (journal : Journal) → All (λ v. is_unsettled (state_of journal v) ≡ false) (vertices (AllRows journal))
each_settled [] = All-nil (λ v. is_unsettled (state_of [] v) ≡ false)
each_settled (e ∷ es) =
    let shut_now = λ (v : ℕ). is_unsettled (state_of (e ∷ es) v) ≡ false in
    subst (All shut_now) (sym (map-append (λ (r : ℕ × Option ℕ). r.0) e.rows (AllRows es)))
    (All-append shut_now (vertices e.rows) (vertices (AllRows es)) (each_named shut_now e.rows (λ v i. rw i refl))
    (All-weaker (λ v. is_unsettled (state_of es v) ≡ false) shut_now (λ v h. search rules) (vertices (AllRows es)) (each_settled es)))
