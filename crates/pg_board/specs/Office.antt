-- The shares of an office, and the results of a call through its lock: those of some lawful board of its game, with the entries of
-- the opening and at least the share's amount settled.
use Rattle.std.specs.Prelude.{ℕ, ◌≡◌, ◌≤◌, ◌+◌, List, sum, Result, Ok, Err, IfOk, OnErr}
use Rattle.pg_game.specs.Specification.{max_vertices}
use Rattle.pg_finders.specs.declared.inside.Copied.{Copied}
use Rattle.pg_dominion.specs.declared.claim.Claim.{Claim}
use Rattle.pg_dominion.specs.Checked.{CheckedClaim}
use Rattle.pg_board.specs.declared.journal.Posted.{Posted}
use Rattle.pg_board.specs.declared.journal.Refusal.{Refusal}
use Rattle.pg_board.specs.BoardRecord.{BoardRecord}
use Rattle.pg_board.specs.Journal.{Journal, number_settled, BeginsWith}
use Rattle.pg_board.specs.Board.{IsLawfulBoard, IsCopyOf}
use Rattle.pg_board.specs.Post.{IsPostAnswer, IsSettleAnswer}

-- all amounts together are the book, and the book is the number settled
pub record AreExact (amounts : List ℕ) (book : ℕ) (journal : Journal) : Type 0 where
  pub amounts_are : sum amounts ≡ book
  pub book_is : book ≡ number_settled journal

-- a board that an office may have which opened with the other: lawful, of its game, with its entries first, and at least the amount settled
pub record IsOfOffice (opened : BoardRecord) (amount : ℕ) (b : BoardRecord) : Type 0 where
  pub lawful : IsLawfulBoard b
  pub game : b.graph ≡ opened.graph
  pub begins : BeginsWith opened.journal b.journal
  pub settled : amount ≤ number_settled b.journal

-- a copy of some such board
abbrev pub IsCopyOfSome : BoardRecord → ℕ → Copied → Type 0
IsCopyOfSome opened amount c = (b : BoardRecord) × IsOfOffice opened amount b × IsCopyOf b c

-- of a posted entry a call through the lock returns only the number of rows
abbrev pub Through : (Result Posted Refusal → Type 0) → Result ℕ Refusal → Type 0
Through Answers (Ok n) = (posted : Posted) × Answers (Ok posted) × (n ≡ posted.settled)
Through Answers (Err e) = Answers (Err e)

-- some such board answers so, and then is another
abbrev pub OfSomeBoard : BoardRecord → ℕ → (BoardRecord → BoardRecord → Result Posted Refusal → Type 0) → Result ℕ Refusal → Type 0
OfSomeBoard opened amount Answers r = (old new : BoardRecord) × IsOfOffice opened amount old × Through (Answers old new) r

abbrev pub IsAnswerOfSome : BoardRecord → ℕ → ℕ → Claim → Result ℕ Refusal → Type 0
IsAnswerOfSome opened amount worker claim r = OfSomeBoard opened amount (λ old new answer. IsPostAnswer old new worker claim answer) r

-- the same for a checked claim
abbrev pub IsCheckedAnswerOfSome : BoardRecord → ℕ → ℕ → CheckedClaim → Result ℕ Refusal → Type 0
IsCheckedAnswerOfSome opened amount worker c r = OfSomeBoard opened amount (λ old new answer. IsSettleAnswer old new worker c answer) r

-- a share after a call through it: it rises by the vertices that were settled
pub record IsRaised (old new : ℕ) (r : Result ℕ Refusal) : Type 0 where
  pub added : IfOk r (λ n. (1 ≤ n) × (new ≡ old + n))
  pub within : IfOk r (λ n. new ≤ max_vertices)
  pub unchanged : OnErr r (new ≡ old)
