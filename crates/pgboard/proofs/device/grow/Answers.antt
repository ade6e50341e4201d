use Rattle.pgboard.proofs.Common.{◌≡◌, ◌≤◌, length, take, ap, ◌∙◌, arith, rules, length-take, take-take, take-append-le, places}
use Rattle.pgboard.proofs.device.grow.Goals as goal

pub returns-in_ok-resize-clause-prefix : goal.returns-in_ok-resize-clause-prefix
returns-in_ok-resize-clause-prefix c =
    let filled = c.args.filled in
    let grown = c.if-filled-capacity.text.items in
    let end = c.min-end.result in
    let same : grown ≡ c.args.text.now.items = search rules in
    let within : filled ≤ length c.args.text.now.items = search (rules, places) in
    let size : c.len.result ≡ length grown = search (rules, places) in
    ap (take filled) c.in_ok-resize.ensures.items ∙ take-append-le filled (take end grown) _ (omega (arith, length-take end grown, ap length same, size))
    ∙ take-take filled end grown (omega (arith, ap length same, size)) ∙ ap (take filled) same
