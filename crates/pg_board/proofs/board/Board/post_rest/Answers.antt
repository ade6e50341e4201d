use Rattle.pg_board.proofs.Common.{refl, rules, length, subst, ap, ◌∙◌, ◌≡◌, IsLawful, BoardRecord, arith}
use Rattle.std.specs.Prelude.{IsSome}
use Rattle.pg_game.specs.VertexSet.{how_many, members}
use Rattle.pg_board.specs.Finish.{number_unsettled, priorities_unsettled}
use Rattle.pg_finders.specs.Steps.{priority_count}
use Rattle.pg_board.proofs.OwnEntries.{none_later, shared_out}
use Rattle.pg_board.proofs.UnsettledNumber.{how_many-unsettled, same_priorities, no_member, gives_up_before, may_give_up}
use Rattle.pg_board.proofs.board.Board.post_rest.Goals as goal

pub returns-then-is_full-clause-later : goal.returns-then-is_full-clause-later
returns-then-is_full-clause-later c = none_later _ _ _ refl

pub returns-in_err-copied-clause-later : goal.returns-in_err-copied-clause-later
returns-in_err-copied-clause-later c = none_later _ _ _ refl

pub returns-in_err-solved-clause-later : goal.returns-in_err-solved-clause-later
returns-in_err-solved-clause-later c = none_later _ _ _ refl

pub returns-in_default-clause-later : goal.returns-in_default-clause-later
returns-in_default-clause-later c = none_later _ _ _ refl

pub post_solved-requires : goal.post_solved-requires
post_solved-requires c =
    shared_out c.args.self.now _ _ _ _ c.in_ok-copied.ensures.graph c.in_ok-copied.ensures.mask (rw c.in-Some.is at c.in_ok-solved.ensures.claims)

pub returns-in_default-clause-limited : goal.returns-in_default-clause-limited
returns-in_default-clause-limited c = λ gave_up.
    let inside = c.in_ok-copied.copied.inside in
    let lawful = subst (λ (b : BoardRecord). IsLawful b.graph b.journal) c.self.view_is c.self.invariant.lawful in
    let sized : length inside.mask ≡ length c.args.self.now.graph = c.in_ok-copied.ensures.part.size ∙ ap length c.in_ok-copied.ensures.graph in
    let few = how_many-unsettled c.args.self.now inside.mask lawful sized c.in_ok-copied.ensures.mask in
    let none : IsSome c.in_ok-solved.field-0 → ⊥ = search rules in
    let open_only = same_priorities c.args.self.now inside.graph inside.mask c.in_ok-copied.ensures.graph c.in_ok-copied.ensures.mask in
    gives_up_before c.args.limit (priority_count inside.graph (members inside.mask)) (priorities_unsettled c.args.self.now) (how_many inside.mask)
    (number_unsettled c.args.self.now) (omega (arith, open_only)) few
    (may_give_up c.args.limit _ (how_many inside.mask) (IsSome c.in_ok-solved.field-0) none
    (λ empty. c.in_ok-solved.ensures.nothing (no_member inside.mask empty)) c.in_ok-solved.ensures.unlimited c.in_ok-solved.ensures.enough)
