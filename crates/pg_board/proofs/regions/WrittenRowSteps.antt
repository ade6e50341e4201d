-- The steps of a region that grows in place, and what it is when nothing is left to do.
use Rattle.pg_board.proofs.Common.{rules, ◌≡◌, ℕ, ◌<◌, false, [], ◌∷◌, ◌++◌, length, take, refl, length-append, Option, ◌==◌, if◌then◌else◌, nat_eq}
use Rattle.pg_board.proofs.Common.{false_from_ne_true, and_parts, or_cases, eqb-true, eq-eqb, or-false, IsDistinct, Player, Graph, In, Within, members}
use Rattle.pg_board.proofs.Common.{member_below, ClaimRows, named, IsAttractedRow, named-push, Regions, State, table_state, state_with, AreRegions, open_before}
use Rattle.pg_board.proofs.Common.{HasWritten, read_set, true, vertices, row_at}
use Rattle.std.proofs.lemmas.List.Sums.{sum_by-set}
use Rattle.pg_dominion.proofs.Rows.{choice-push_same, choice-push_other}
use Rattle.pg_dominion.proofs.ListedVertices.{takes_one}
use Rattle.pg_dominion.proofs.TakenRow.{extends_taken}
use Rattle.pg_dominion.specs.AttractorState.{AttractsNoFurther}
use Rattle.pg_board.specs.private.WrittenRows.{WritesInTurn}
use Rattle.pg_dominion.proofs.RowsByPlace.{named_at, fresh_at}
use Rattle.pg_board.proofs.regions.Tables.{AreRegions-settle, Settles}

-- a vertex is settled, with its row
pub record Takes (g : Graph) (p : Player) (r r' : Regions) (rows : ClaimRows) (row : ℕ × Option ℕ) (spare : ℕ) : Type 0 where
  pub settles : Settles r r' p row
  pub unsettled : In (members r.unsettled) row.0
  pub growing : HasWritten g r rows spare

module _ {g : Graph} {p : Player} {r r' : Regions} {rows : ClaimRows} {row : ℕ × Option ℕ} {spare : ℕ} (h : Takes g p r r' rows row spare) where
  mask_now : (v : ℕ) → members r'.unsettled v ≡ (if row.0 == v then false else members r.unsettled v)
  mask_now = search (rules, h.settles, h.growing.regions, read_set, member_below, h.growing.regions.mask_size)

  pub HasWritten-take : HasWritten g r' (rows ++ row ∷ []) spare
  HasWritten-take =
      search (rules, AreRegions-settle, h.settles, h.growing.regions, mask_now, named-push, length-append, or_cases, h.growing.apart, sum_by-set, member_below)

  pub written-take : (st : State) → ((v : ℕ) → table_state r.table.items v ≡ state_with st p rows v) → (v : ℕ)
      → table_state r'.table.items v ≡ state_with st p (rows ++ row ∷ []) v
  written-take st written =
      search (rules, false_from_ne_true, h.growing.apart, and_parts, member_below, named-push, eq-eqb, eqb-true, choice-push_same, choice-push_other, read_set)

  pub same-take : (v : ℕ) → open_before r' (rows ++ row ∷ []) v ≡ open_before r rows v
  same-take =
      (takes_one (λ (x : ℕ × Option ℕ). x.0) (members r.unsettled) (members r.unsettled) (members r'.unsettled) rows (rows ++ row ∷ []) row.0
      (λ w. refl) h.unsettled (row, refl, refl) mask_now).same

  pub WritesInTurn-take : IsAttractedRow g p (open_before r rows) (named rows) row → WritesInTurn g p r rows r' (rows ++ row ∷ [])
  WritesInTurn-take leads = record { extends = extends_taken g p (members r.unsettled) (members r'.unsettled) rows row mask_now h.unsettled leads; tells = written-take }

-- a mask that didn't change is as much apart
pub HasWritten-same : (g : Graph) (r r' : Regions) (rows : ClaimRows) (spare : ℕ) → AreRegions g r' → r'.unsettled ≡ r.unsettled
    → HasWritten g r rows spare → HasWritten g r' rows spare
HasWritten-same g r r' rows spare regions mask a = search (rules, a.apart, a.fits)

-- the row at the place is unsettled, where those before it are settled
pub row_open : (r old : Regions) (rows : ClaimRows) (i : ℕ) → i < length rows → ((v : ℕ) → open_before r (take i rows) v ≡ members old.unsettled v)
    → Within (named rows) (members old.unsettled) → IsDistinct nat_eq (vertices rows) → In (members r.unsettled) (row_at rows i).0
row_open r old rows i l same within distinct = search (rules, named_at, fresh_at, or_cases)

-- what has nothing unsettled left attracts no further
pub none_further : (g : Graph) (p : Player) (r : Regions) (rows : ClaimRows) → ((v : ℕ) → members r.unsettled v ≡ false)
    → AttractsNoFurther g p (open_before r rows) (named rows) (named rows)
none_further g p r rows none = record { own = λ v w i n o e. absurd (nothing v i n); other = λ v i n o. absurd (nothing v i n) }
  where
    nothing : (v : ℕ) → In (open_before r rows) v → named rows v ≡ false → ⊥
    nothing v i n = (let h : false ≡ true = rw (none v, n) at i in cc h)

pub before_none : (r : Regions) (v : ℕ) → open_before r [] v ≡ members r.unsettled v
before_none r v = or-false (members r.unsettled v)
