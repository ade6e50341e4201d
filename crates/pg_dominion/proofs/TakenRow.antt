-- A row is written for a vertex that is taken.
use Rattle.pg_dominion.proofs.Common.{◌≡◌, ℕ, ◌-◌, List, take, drop, ap, ◌∙◌, false, ◌∷◌, ◌++◌, [], refl, sym, subst, inl, inr, length, arith, rules}
use Rattle.pg_dominion.proofs.Common.{length-append, Option, ◌==◌, if◌then◌else◌, take_all, Player, Graph, VertexSet, In, union, ClaimRows, named}
use Rattle.pg_dominion.proofs.Common.{IsAttractedRow, LeadFrom}
use Rattle.std.proofs.Common.{length-drop}
use Rattle.pg_dominion.specs.ExtendedRows.{Extends}
use Rattle.pg_dominion.proofs.ListedVertices.{takes_one}
use Rattle.pg_dominion.proofs.AttractionSteps.{Continues-push}
use Rattle.pg_dominion.proofs.Rows.{split_push}

pub extends_taken : (g : Graph) (p : Player) (free free' : VertexSet) (rows : ClaimRows) (row : ℕ × Option ℕ)
    → ((w : ℕ) → free' w ≡ (if row.0 == w then false else free w)) → In free row.0 → IsAttractedRow g p (union free (named rows)) (named rows) row
    → Extends g p free rows free' (rows ++ row ∷ [])
extends_taken g p free free' rows row now i leads = record {
  same = (takes_one (λ (r : ℕ × Option ℕ). r.0) free free free' rows (rows ++ row ∷ []) row.0 (λ w. refl) i (row, refl, refl) now).same;
  more = Continues-push rows row;
  turns = λ n l turns before after x e m. elim (split_push rows row before x after e) [
    | inl (rest, q) ↦ turns before rest x q m
    | inr (q, s) ↦
        subst (λ (b : ClaimRows). IsAttractedRow g p (union free (named rows)) (named b) x) (sym q)
        (subst (λ (y : ℕ × Option ℕ). IsAttractedRow g p (union free (named rows)) (named rows) y) (sym s) leads)
  ];
}

-- there is no row from the end on
pub lead_none : (g : Graph) (p : Player) (U : VertexSet) (rows : ClaimRows) → LeadFrom g p U (length rows) rows
lead_none g p U rows before after r e l = search (rules, length-append)

-- the slice from a place on is what is left there
pub rest_from : {X : Type 0} (n m : ℕ) (xs ys : List X) → n ≡ m → xs ≡ ys → take (length xs - n) (drop n xs) ≡ drop m ys
rest_from n m xs ys e f = take_all (length xs - n) (drop n xs) (omega (arith, length-drop n xs)) ∙ (ap (λ k. drop k xs) e ∙ ap (drop m) f)
