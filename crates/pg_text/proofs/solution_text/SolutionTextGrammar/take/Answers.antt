use Rattle.pg_text.proofs.Common.{rules, refl, sym, ap, subst, map-append, digit_of, ◌∙◌}
use Rattle.pg_text.specs.declared.reader.State.TheVariants as state
use Rattle.pg_text.specs.private.SolutionReads.{AreWinners}
use Rattle.pg_text.specs.private.Tables.{solution_table}
use Rattle.pg_text.proofs.reader.Machine.{entered}
use Rattle.pg_text.proofs.solution_text.TokenSteps.{on, winner_is, stops, other_kind, before_winner, are_winners}
use Rattle.pg_text.proofs.solution_text.SolutionTextGrammar.take.Goals as goal

pub returns-in-Number-Start : goal.returns-in-Number-Start
returns-in-Number-Start c sound ts t x k = entered (λ p. cc p) (λ v. on k t state.Id refl (search rules) (λ u a. let w = v u in search rules))

pub returns-in-Number-Id : goal.returns-in-Number-Id
returns-in-Number-Id c sound ts t x k = record {
  reads = λ v. on k t state.Player refl (search rules) (λ u a.
      let w = v u in let is = ap digit_of c.of_digit-self.ensures.player ∙ (rw c.in-Number-Id.is-0 at (winner_is w.0 (w.1 refl))) in search (rules, is));
  before = λ u p.
      before_winner k c.args.kind (subst AreWinners (k.agrees u).lines_are (are_winners c.args.self.now.lines.items)) (search rules);
}

pub returns-in-Number-Player : goal.returns-in-Number-Player
returns-in-Number-Player c sound ts t x k = entered (λ p. cc p) (λ v. on k t state.Vertex refl (search rules) (λ u a. let w = v u in search rules))

pub returns-in_ok-push-in-Semicolon-Player : goal.returns-in_ok-push-in-Semicolon-Player
returns-in_ok-push-in-Semicolon-Player c sound ts t x k =
    entered (λ p. cc p) (λ v. on k t state.Ready refl (search rules) (λ u a. search (rules, map-append, a.lines_are)))

pub returns-in-Paritysol-Start : goal.returns-in-Paritysol-Start
returns-in-Paritysol-Start c sound ts t x k = entered (λ p. cc p) (λ v. on k t state.HeadWord refl (search rules) (λ u a. a))

pub returns-in-Number-HeadWord : goal.returns-in-Number-HeadWord
returns-in-Number-HeadWord c sound ts t x k = entered (λ p. cc p) (λ v. on k t state.HeadNumber refl (search rules) (λ u a. a))

pub returns-in-Semicolon-HeadNumber : goal.returns-in-Semicolon-HeadNumber
returns-in-Semicolon-HeadNumber c sound ts t x k = entered (λ p. cc p) (λ v. on k t state.Headed refl (search rules) (λ u a. a))

pub returns-in_default : goal.returns-in_default
returns-in_default c sound ts t x k = stops k t (search rules)

pub returns-in_default-2 : goal.returns-in_default-2
returns-in_default-2 c sound ts t x k = stops k t (search rules)

pub returns-in_default-3 : goal.returns-in_default-3
returns-in_default-3 c sound ts t x k = stops k t (search rules)

pub returns-in_default-4 : goal.returns-in_default-4
returns-in_default-4 c sound ts t x k =
    let d = c.in_default in
    stops k t (ap (solution_table c.args.state) (sym x) ∙ other_kind c.args.state c.args.kind d.not-Number-0 d.not-Paritysol-0 d.not-Semicolon-0)
