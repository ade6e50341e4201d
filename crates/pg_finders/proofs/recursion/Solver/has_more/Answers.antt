use Rattle.pg_finders.proofs.Common.{◌≢◌, rules, sym, ◌∙◌, arith, count_by-le-length}
use Rattle.pg_finders.proofs.recursion.LoopSteps.{lists_fit, none_active, some_active}
use Rattle.pg_finders.proofs.recursion.Solver.has_more.Goals as goal

pub gone-requires : goal.gone-requires
gone-requires c =
    let h = c.requires.open_levels in
    omega (arith, lists_fit c.args.view.now.mask.now h.apart h.listed_inside, count_by-le-length (λ b. b) c.args.view.now.mask.now, c.requires.inside_length, c.requires.placed.few)

pub returns-clause-some : goal.returns-clause-some
returns-clause-some c e =
    let n : c.gone.result ≢ c.args.self.now.size = search rules in
    some_active c.args.view.now.mask.now c.requires.open_levels (λ q. n (c.gone.ensures ∙ (q ∙ sym c.requires.whole)))

pub returns-clause-none : goal.returns-clause-none
returns-clause-none c e v =
    none_active c.args.view.now.mask.now c.requires.open_levels (sym c.gone.ensures ∙ (search rules ∙ c.requires.whole)) v
