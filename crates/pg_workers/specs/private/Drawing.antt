-- The rule of the word that tickets draw from, and the results of the steps on it.
use Rattle.std.specs.Prelude.{◌≡◌, ℕ, ◌+◌, ◌-◌, ◌<◌, ◌≤◌, List, [], ◌∷◌, ◌++◌, length, min, nat_lt, sum_by, MatchBool}
use mathlib.Core.Option.{some}
use lib.ListN.{get_elem?}
use Rattle.atomic_table.specs.Table.{State, Me, Step}
use Rattle.pg_workers.specs.declared.jobs.Drawer.{Drawer}
use Rattle.pg_workers.specs.Counting.{AreFair}
use Rattle.pg_workers.specs.Tickets.{Series}

-- the view of a seat: the total, the number of its tickets, the number of these that found no job left,
-- and the numbers that they drew
abbrev pub drawer : ℕ → ℕ → ℕ → List ℕ → Drawer
drawer total tickets told_none drawn = record { total = total; tickets = tickets; told_none = told_none; drawn = drawn }

-- no more of its tickets found no job left than it has, and a seat without tickets has drawn nothing
abbrev pub IsDrawer : ℕ → Drawer → Type 0
IsDrawer total v = (v.told_none ≤ v.tickets) × (0 < v.tickets → v.total ≡ total) × (v.tickets ≡ 0 → v.drawn ≡ [])

-- The lists are fair. The word counts each drawn number and each ticket that found no job left, and no ticket is lost
pub record IsDrawn (total seats : ℕ) (s : State (Unit {0}) Drawer) : Type 0 where
  pub word : ℕ
  pub words : s.words ≡ word ∷ []
  pub fair : AreFair total word (λ v. v.drawn) s.views
  pub drawn : sum_by (λ v. length v.drawn) s.views ≡ min total word
  pub steps : word ≡ sum_by (λ v. length v.drawn) s.views + sum_by (λ v. v.told_none) s.views
  pub tickets : sum_by (λ v. v.tickets) s.views ≡ seats
  pub each : (id : ℕ) (v : Drawer) → get_elem? s.views id ≡ some v → IsDrawer total v

abbrev pub AtSeat : Type 0
AtSeat = Me (Unit {0}) Drawer

-- a draw adds the number of the word, or one more ticket finds no job left
abbrev pub Draws : Step (Unit {0}) → AtSeat → ℕ → AtSeat → Type 0
Draws st m found n =
    (n.1 ≡ m.1)
    × MatchBool (nat_lt found m.0.total)
    ((length m.0.drawn < m.0.total) × (n.0 ≡ drawer m.0.total m.0.tickets m.0.told_none (m.0.drawn ++ found ∷ [])))
    (n.0 ≡ drawer m.0.total m.0.tickets (m.0.told_none + 1) m.0.drawn)

-- one ticket goes to a new seat
abbrev pub one_less : Drawer → Drawer
one_less v = drawer v.total (v.tickets - 1) v.told_none v.drawn

abbrev pub one_ticket : Drawer → Drawer
one_ticket v = drawer v.total 1 0 []

-- the view of two seats together, and the view that remains for the one that joined
abbrev pub both_drawers : Drawer → Drawer → Drawer
both_drawers v w = drawer v.total (v.tickets + w.tickets) (v.told_none + w.told_none) (v.drawn ++ w.drawn)

abbrev pub spent_drawer : Drawer
spent_drawer = drawer 0 0 0 []

-- the series of a type that has no jobs
abbrev pub no_series : Series
no_series = record { table = record { words = 0; slots = 0; views_name = 0; atom = 0; block = 0; offset = 0; slot_names = [] }; total = 0 }
