use Rattle.std.specs.Prelude.{Option, None, IfSome}
use Rattle.pg_workers.proofs.Common.{◌≡◌, ℕ, length, ap, arith, Some, slice_get, Graph, Player, KnownRows, own_choices, known_choice}
use Rattle.pg_text.specs.declared.solution_text.Solution.{Solution}
use Rattle.pg_board.specs.State.{State}
use Rattle.pg_board.specs.Finish.{number_unsettled}
use Rattle.pg_board.specs.Journal.{number_settled}
use Rattle.pg_board.proofs.UnsettledNumber.{gives_up_before, open_priorities}
use Rattle.pg_workers.specs.KnownRegions.{KeepsKnown}
use Rattle.pg_workers.proofs.alone.solve_alone.Goals as goal

-- what the board has of what is known, the solution has too
known_kept : (found : Option Solution) (g : Graph) (known : KnownRows) (st : State) → KeepsKnown g known st
    → IfSome found (λ s. (v : ℕ) (r : Player × Option ℕ) → st v ≡ Some r → slice_get s.rows v ≡ Some r)
    → IfSome found (λ s. KeepsKnown g known (λ v. slice_get s.rows v))
known_kept None g known st keeps h = tt
known_kept (Some s) g known st keeps h = λ p v i. h v (p, own_choices g p (known_choice known) v) (keeps p v i)

pub returns-clause-kept : goal.returns-clause-kept
returns-clause-kept c = known_kept _ _ _ _ c.in_ok-board.ensures.known.states c.in_ok-solve_board.ensures.kept

pub returns-clause-limited : goal.returns-clause-limited
returns-clause-limited c = λ none.
    let board = c.in_ok-board.board in
    let same : length board.graph ≡ length c.args.of.now.game.now = ap (λ (g : Graph). length g) c.in_ok-board.ensures.game in (
      number_settled board.journal,
      c.in_ok-board.ensures.known.number,
      gives_up_before c.args.limit _ _ (number_unsettled board) _ (open_priorities board c.args.of.now.game.now c.in_ok-board.ensures.game) (omega (arith, same))
          (c.in_ok-solve_board.ensures.limited none),
    )
