-- The rows of a lawful journal name vertices alone.
use Rattle.pgboard.proofs.Common.{arith, ◌≡◌, ℕ, [], ◌∷◌, ◌++◌, length, take, zero, suc, refl, sym, ◌∙◌, subst, append_assoc, Option, Some, slice_get, inl, inr}
use Rattle.pgboard.proofs.Common.{common_steps, AllByRecursion, take-append-drop, Player, Graph, IsGame, owner_of, VertexSet, all_vertices, union, edge_below}
use Rattle.pgboard.proofs.Common.{same_or_not, chosen_below, none_below, ClaimRows, named, IsRightRow, IsAttractedRow, Entry, settled, Journal, state_of}
use Rattle.pgboard.proofs.Common.{claimed_rows, attracted_rows, IsLawful, NamesVertices}
use Rattle.pg_dominion.specs.Attraction.{AttractInTurn}

right_row : (g : Graph) → IsGame g → (p : Player) (r : ℕ × Option ℕ) → IsRightRow g p r → NamesVertices (length g) r
right_row g game p r right = record {
  vertex = right.vertex;
  choice = elim (same_or_not (owner_of g r.0) p) [
    | inl e ↦ (let o = right.own e in chosen_below (length g) o.0 r.1 o.1 (edge_below g game r.0 o.0 right.vertex o.2))
    | inr ne ↦ none_below (length g) r.1 (right.other ne)
  ];
}

led_row : (g : Graph) → IsGame g → (p : Player) (S : VertexSet) (r : ℕ × Option ℕ) → IsAttractedRow g p (all_vertices g) S r
    → NamesVertices (length g) r
led_row g game p S r leads = grind (arith, common_steps, same_or_not, chosen_below, edge_below, none_below)

right_rows : (g : Graph) → IsGame g → (p : Player) (rows : ClaimRows) → AllByRecursion (IsRightRow g p) rows
    → AllByRecursion (NamesVertices (length g)) rows
right_rows g game p [] all = tt
right_rows g game p (r ∷ rows) (one, all) = (right_row g game p r one, right_rows g game p rows all)

led_rows : (g : Graph) → IsGame g → (p : Player) (S : VertexSet) (all before rows : ClaimRows) → all ≡ before ++ rows
    → AttractInTurn g p (all_vertices g) S all → AllByRecursion (NamesVertices (length g)) rows
led_rows g game p S all before [] e turns = tt
led_rows g game p S all before (r ∷ rows) e turns = (
  led_row g game p (union S (named before)) r (turns before rows r e),
  led_rows g game p S all (before ++ r ∷ []) rows
      (e ∙ sym (append_assoc before (r ∷ []) rows)) turns,
)

both : (n : ℕ) (xs ys : ClaimRows) → AllByRecursion (NamesVertices n) xs → AllByRecursion (NamesVertices n) ys → AllByRecursion (NamesVertices n) (xs ++ ys)
both n [] ys a b = b
both n (x ∷ xs) ys (one, a) b = (one, both n xs ys a b)

all_by_index : (P : Entry → Type 0) (es : Journal) → ((k : ℕ) (e : Entry) → slice_get es k ≡ Some e → P e) → AllByRecursion P es
all_by_index P [] h = tt
all_by_index P (e ∷ es) h = (h zero e refl, all_by_index P es (λ k x is. h (suc k) x is))

entry_rows : (g : Graph) → IsGame g → (journal : Journal) → IsLawful g journal → (k : ℕ) (e : Entry) → slice_get journal k ≡ Some e
    → AllByRecursion (NamesVertices (length g)) e.rows
entry_rows g game journal lawful k e is =
    let good = lawful.good k e is in let answer = lawful.answered k e is in
    let first = right_rows g game e.player (claimed_rows e) good.sound.shape.right.each in
    let second = led_rows g game e.player (union (settled (state_of (take k journal)) e.player) (named (claimed_rows e))) (attracted_rows e) []
    (attracted_rows e) refl answer.turns in
    subst (λ (rows : ClaimRows). AllByRecursion (NamesVertices (length g)) rows) (take-append-drop e.claimed e.rows)
    (both (length g) (claimed_rows e) (attracted_rows e) first second)

pub journal_rows : (g : Graph) → IsGame g → (journal : Journal) → IsLawful g journal
    → AllByRecursion (λ e. AllByRecursion (NamesVertices (length g)) e.rows) journal
journal_rows g game journal lawful = all_by_index (λ e. AllByRecursion (NamesVertices (length g)) e.rows) journal (entry_rows g game journal lawful)
