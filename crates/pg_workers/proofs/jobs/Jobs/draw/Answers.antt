use Rattle.pg_workers.proofs.Common.{◌+◌, ◌<◌, ◌^◌, Bool, sym, ap, ◌∙◌, arith, if◌then◌else◌, none, step}
use Rattle.pg_workers.proofs.jobs.WordSteps.{draws}
use Rattle.pg_workers.proofs.jobs.Jobs.draw.Goals as goal

pub fetch_add-found-requires : goal.fetch_add-found-requires
fetch_add-found-requires c =
    let jobs = c.self.invariant in let mine = c.ticket.invariant in
    let same_table = ap (λ t. t.series.table) c.ticket.view_is ∙ ap (λ s. s.table) c.requires ∙ sym (ap (λ o. o.series.table) c.self.view_is) in
    let one = ap (λ m. m.0.tickets) mine.seat in
    let not_told = ap (λ m. m.0.told_none) mine.seat ∙ ap (λ (b : Bool). if b then 1 else 0) c.if-ticket.false in
    let few : c.self.inside.table.shared.key.total + c.self.inside.table.shared.key.seats < 2 ^ 63 =
    let a = ap (λ k. k.total) jobs.key in let b = ap (λ k. k.seats) jobs.key in omega (arith, a, b, jobs.few, jobs.few_seats) in
    (same_table, omega (arith, jobs.words), draws _ _ _ _ _ (step 0 0 1 0 none) few one not_told)
