use Rattle.pg_dominion.proofs.Common.{◌≡◌, ◌↔◌, ℕ, length, sym, ◌∙◌, ap, subst, StrategyGraph, ltb-true, Graph, IsGame, NoneHas, IsLeast, edge_inside, Leaves, IsOnBadCycle}
use Rattle.pg_text.proofs.Verdict.{solution_from_no_fault}
use Rattle.pg_text.specs.Solution.{SolutionRows}
use Rattle.pg_game.specs.Least.{IsFirstEdge}
use Rattle.pg_text.specs.Verdict.{IsOnBadWalk}
use Rattle.pg_dominion.specs.private.JointStrategy.{IsJointStrategy}
use Rattle.pg_dominion.proofs.solution.KeptEdges.{bad_cycle_is_on_bad_walk}
use Rattle.pg_dominion.proofs.solution.check_forward_solution.Goals as goal

bad_as_in_game : (k : StrategyGraph) (g : Graph) (rows : SolutionRows) → length rows ≡ length g → k.game.now ≡ g → IsJointStrategy k rows
    → ((v w : ℕ) → Leaves k.game.now rows v w → ⊥) → (v : ℕ) → IsOnBadCycle k v ↔ IsOnBadWalk g rows v
bad_as_in_game k g rows size same joint leaves = subst (λ (x : Graph). (v : ℕ) → IsOnBadCycle k v ↔ IsOnBadWalk x rows v) same
    (bad_cycle_is_on_bad_walk k rows (size ∙ sym (ap (λ (x : Graph). length x) same)) joint leaves)

pub returns-in-Some-2-clause-fails : goal.returns-in-Some-2-clause-fails
returns-in-Some-2-clause-fails c =
    let rows = c.args.solution.now.rows in
    let k = c.in_ok-kept.kept in
    let leaves = subst (λ (g : Graph). (u w : ℕ) → Leaves g rows u w → ⊥) c.in_ok-kept.ensures.game c.in_default-first_leaving.ensures.first in
    let h : IsLeast (IsOnBadCycle k) c.in-Some-2.v = rw c.in-Some-2.is at c.in_ok-v.ensures in
    let same = bad_as_in_game k c.args.game.now rows c.requires c.in_ok-kept.ensures.game c.in_ok-kept.ensures.joint c.in_default-first_leaving.ensures.first in (
      c.in-Some-2.v,
      c.id-in-Some-2.ensures,
      record {
        choices = c.in_default.ensures;
        edges = c.in_default-first_bad_choice.ensures;
        stays = leaves;
        first = record { has = (same c.in-Some-2.v).0 h.has; least = λ u b. h.least u ((same u).1 b) };
      },
    )

pub returns-clause-holds : goal.returns-clause-holds
returns-clause-holds c =
    let g = c.args.game.now in
    let rows = c.args.solution.now.rows in
    let leaves = subst (λ (g : Graph). (u w : ℕ) → Leaves g rows u w → ⊥) c.in_ok-kept.ensures.game c.in_default-first_leaving.ensures.first in
    let none : NoneHas (IsOnBadCycle c.in_ok-kept.kept) = rw c.in_default-2.is at c.in_ok-v.ensures in
    let same = bad_as_in_game c.in_ok-kept.kept g rows c.requires c.in_ok-kept.ensures.game c.in_ok-kept.ensures.joint
    c.in_default-first_leaving.ensures.first in
    let game = subst (λ (x : Graph). IsGame x) c.in_ok-kept.ensures.game c.in_ok-kept.kept.shape.game in
    solution_from_no_fault g rows c.requires (λ v w l e. ltb-true w (length g) (edge_inside g game v w l e))
    c.in_default.ensures c.in_default-first_bad_choice.ensures leaves (λ v b. none v ((same v).1 b))

pub returns-in-Some-clause-fails : goal.returns-in-Some-clause-fails
returns-in-Some-clause-fails c = (c.in-Some.v, c.id.ensures, c.in-Some.ensures)

pub joint_strategy-requires-clause-choices : goal.joint_strategy-requires-clause-choices
joint_strategy-requires-clause-choices c = c.in_default.ensures

pub joint_strategy-requires-clause-right : goal.joint_strategy-requires-clause-right
joint_strategy-requires-clause-right c = c.in_default-first_bad_choice.ensures

pub returns-in-Some-first_bad_choice-clause-fails : goal.returns-in-Some-first_bad_choice-clause-fails
returns-in-Some-first_bad_choice-clause-fails c =
    (c.in-Some-first_bad_choice.v, c.id-in-Some-first_bad_choice.ensures, (c.in_default.ensures, c.in-Some-first_bad_choice.ensures))

pub returns-in-Some-first_leaving-clause-fails : goal.returns-in-Some-first_leaving-clause-fails
returns-in-Some-first_leaving-clause-fails c =
    let e = c.in-Some-first_leaving in
    let first = subst (λ (g : Graph). IsFirstEdge (Leaves g c.args.solution.now.rows) e.v e.w) c.in_ok-kept.ensures.game e.ensures.first in record {
      v = e.v;
      w = e.w;
      id_is = c.id-from.ensures;
      to_is = c.id-to.ensures;
      fails = record { choices = c.in_default.ensures; edges = c.in_default-first_bad_choice.ensures; first = first };
    }
