use Rattle.pg_text.proofs.Common.{◌∙◌, ap, value_in}
use Rattle.pg_text.proofs.FirstFaults.{IsTaken}
use Rattle.pg_text.proofs.reader.Machine.{value_read}
use Rattle.pg_text.proofs.reader.TokenSteps.{token_kept}
use Rattle.pg_text.proofs.reader.Reader.take.Goals as goal

pub returns-in-Some : goal.returns-in-Some
returns-in-Some g c t ts e k =
    let taken : IsTaken t _ _ _ (value_in c.args.lexeme.kind) =
    record { value = ap value_in e ∙ value_read t; first = rw (← c.is_large.ensures) c.note_first.ensures } in
    rw (c.note_first-in-Some.ensures, c.is_wrong.ensures)
    (token_kept k g.met.G.Grammar.weaker t taken c.in-Some.state _ (λ sound us r. let enters = c.in_ok-state.ensures sound us t e r in rw c.in-Some.is at enters))

pub returns-in-None : goal.returns-in-None
returns-in-None g c t ts e k = let stops = c.in_ok-state.ensures _ _ t e k.reads in rw c.in-None.is at stops
