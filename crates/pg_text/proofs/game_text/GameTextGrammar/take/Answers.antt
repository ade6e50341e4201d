use Rattle.pg_text.proofs.Common.{rules, refl, sym, ap, ◌∙◌}
use Rattle.pg_text.specs.declared.reader.State.TheVariants as state
use Rattle.pg_text.specs.private.Tables.{game_table}
use Rattle.pg_text.proofs.reader.Machine.{entered}
use Rattle.pg_text.proofs.game_text.TokenSteps.{on, one_line, stops, other_kind, before_owner}
use Rattle.pg_text.proofs.game_text.GameTextGrammar.take.Goals as goal

pub returns-in-Number-Start : goal.returns-in-Number-Start
returns-in-Number-Start c sound ts t x k = entered (λ p. cc p) (λ v. on k t state.Id refl (search rules) (λ u a. let w = v u in search rules))

pub returns-in-Number-Id : goal.returns-in-Number-Id
returns-in-Number-Id c sound ts t x k = entered (λ p. cc p) (λ v. on k t state.Priority refl (search rules) (λ u a. let w = v u in search rules))

pub returns-in-Number-Priority : goal.returns-in-Number-Priority
returns-in-Number-Priority c sound ts t x k = record {
  reads = λ v. on k t state.Player refl (search rules) (λ u a.
      let w = v u in
      let l = w.1 refl in
      search (rules, c.of_digit-self.ensures.player, c.clear.ensures.specs, c.clear.ensures.successors));
  before = λ u p. before_owner k c.args.kind (k.agrees u).lines_are.1 (search rules);
}

pub returns-in_ok-push-in-Number-Player : goal.returns-in_ok-push-in-Number-Player
returns-in_ok-push-in-Number-Player c sound ts t x k =
    entered (λ p. cc p) (λ v. on k t state.Vertex refl (search rules) (λ u a.
    let w = v u in search (rules, c.in_ok-push-in-Number-Player.ensures.pushed, c.in_ok-push-in-Number-Player.ensures.specs)))

pub returns-in-Comma-Vertex : goal.returns-in-Comma-Vertex
returns-in-Comma-Vertex c sound ts t x k = entered (λ p. cc p) (λ v. on k t state.Listing refl (search rules) (λ u a. a))

pub returns-in-Name-Vertex : goal.returns-in-Name-Vertex
returns-in-Name-Vertex c sound ts t x k = entered (λ p. cc p) (λ v. on k t state.Named refl (search rules) (λ u a. search rules))

pub returns-in_ok-close-in-Semicolon-Vertex : goal.returns-in_ok-close-in-Semicolon-Vertex
returns-in_ok-close-in-Semicolon-Vertex c sound ts t x k =
    entered (λ p. cc p) (λ v. on k t state.Ready refl (search rules) (λ u a.
    one_line c.in_ok-close-in-Semicolon-Vertex.ensures.specs c.in_ok-close-in-Semicolon-Vertex.ensures.successors a))

pub returns-in-Parity-Start : goal.returns-in-Parity-Start
returns-in-Parity-Start c sound ts t x k = entered (λ p. cc p) (λ v. on k t state.HeadWord refl (search rules) (λ u a. a))

pub returns-in-Number-HeadWord : goal.returns-in-Number-HeadWord
returns-in-Number-HeadWord c sound ts t x k = entered (λ p. cc p) (λ v. on k t state.HeadNumber refl (search rules) (λ u a. a))

pub returns-in-Semicolon-HeadNumber : goal.returns-in-Semicolon-HeadNumber
returns-in-Semicolon-HeadNumber c sound ts t x k = entered (λ p. cc p) (λ v. on k t state.Headed refl (search rules) (λ u a. a))

pub returns-in-Start-Start : goal.returns-in-Start-Start
returns-in-Start-Start c sound ts t x k = entered (λ p. cc p) (λ v. on k t state.StartWord refl (search rules) (λ u a. a))

pub returns-in-Number-StartWord : goal.returns-in-Number-StartWord
returns-in-Number-StartWord c sound ts t x k = entered (λ p. cc p) (λ v. on k t state.StartNumber refl (search rules) (λ u a. a))

pub returns-in-Semicolon-StartNumber : goal.returns-in-Semicolon-StartNumber
returns-in-Semicolon-StartNumber c sound ts t x k = entered (λ p. cc p) (λ v. on k t state.Started refl (search rules) (λ u a. a))

pub returns-in_default : goal.returns-in_default
returns-in_default c sound ts t x k = stops k t (search rules)

pub returns-in_default-2 : goal.returns-in_default-2
returns-in_default-2 c sound ts t x k = stops k t (search rules)

pub returns-in_default-3 : goal.returns-in_default-3
returns-in_default-3 c sound ts t x k = stops k t (search rules)

pub returns-in_default-4 : goal.returns-in_default-4
returns-in_default-4 c sound ts t x k = stops k t (search rules)

pub returns-in_default-5 : goal.returns-in_default-5
returns-in_default-5 c sound ts t x k = stops k t (search rules)

pub returns-in_default-6 : goal.returns-in_default-6
returns-in_default-6 c sound ts t x k = stops k t (search rules)

pub returns-in_default-7 : goal.returns-in_default-7
returns-in_default-7 c sound ts t x k =
    let d = c.in_default in
    stops k t (ap (game_table c.args.state) (sym x) ∙ other_kind c.args.state c.args.kind d.not-Number-0 d.not-Parity-0 d.not-Start-0 d.not-Name-0 d.not-Comma-0 d.not-Semicolon-0)
