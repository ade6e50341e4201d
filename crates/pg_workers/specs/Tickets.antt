-- What contracts see of jobs and of the tickets that draw their numbers.
use Rattle.std.specs.Prelude.{◌≡◌, ℕ, ◌+◌, ◌<◌, List, [], ◌∷◌, ◌++◌, Bool, true, false, length, count_by, sum_by}
use Rattle.atomic_table.specs.Seated.{TableId}
use Rattle.pg_workers.specs.Counting.{AreFair}

-- the jobs, and their number
pub record Series : Type 0 where
  pub table : TableId
  pub total : ℕ

-- the jobs, and the number of their tickets
pub record JobNumbers : Type 0 where
  pub series : Series
  pub seats : ℕ

-- the jobs, the drawn numbers, and whether a draw found no job left
pub record HeldTicket : Type 0 where
  pub series : Series
  pub numbers : List ℕ
  pub told_none : Bool

-- a ticket that has drawn nothing
abbrev pub fresh : Series → HeldTicket
fresh series = record { series = series; numbers = []; told_none = false }

-- the ticket with one more number
abbrev pub drew : HeldTicket → ℕ → HeldTicket
drew t j = record { series = t.series; numbers = t.numbers ++ j ∷ []; told_none = t.told_none }

-- the ticket once a draw has found no job left
abbrev pub exhausted : HeldTicket → HeldTicket
exhausted t = record { series = t.series; numbers = t.numbers; told_none = true }

-- The tickets' lists are fair for the closing word, which counts the drawn numbers and the tickets that found no job left. If
-- there is such a ticket, the lists together have each number below the total once.
pub record AreDrawn (total : ℕ) (tickets : List HeldTicket) : Type 0 where
  pub word : ℕ
  pub fair : AreFair total word (λ t. t.numbers) tickets
  pub word_is : word ≡ sum_by (λ t. length t.numbers) tickets + count_by (λ t. t.told_none) tickets
  pub all : 0 < count_by (λ t. t.told_none) tickets → AreFair total total (λ t. t.numbers) tickets
