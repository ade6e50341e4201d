use Rattle.pg_workers.proofs.Common.{◌≡◌, ℕ, ◌<◌, List, [], ◌∷◌, ◌++◌, All, length, sym, ap, ◌∙◌, subst, arith, length-append, append_assoc, append-nil, cond}
use Rattle.pg_workers.proofs.Common.{if◌then◌else◌, flat_map, into_iter_items, nil_from_length, sum_by_push, sum_by-cons, HeldTicket, AreDrawn}
use Rattle.pg_workers.specs.declared.jobs.Drawn.{Drawn}
use Rattle.pg_workers.proofs.jobs.WordSteps.{joins, knows_all}
use Rattle.pg_workers.proofs.jobs.DrawnNumbers.{remade, all_here, flat_map-push, listed-push, drawn_by_all}
use Rattle.pg_workers.proofs.jobs.Jobs.close.Goals as goal

-- the ticket and the first one are of these jobs
pub join_seat-requires : goal.join_seat-requires
join_seat-requires c =
    let at = c.loop-ticket in let i = at.invariant in let jobs = c.self.invariant in
    let left = ap (λ l. at.yielded ++ l) (sym c.in-Some.ensures.steps.0) ∙ i.tickets ∙ c.into_iter-ticket-iterator.ensures.into_iter_gives.0 in
    let some_ticket : 0 < length c.args.tickets.items = let l = c.requires.all in let s = ap (λ o. o.seats) c.self.view_is in omega (arith, jobs.some_seat) in
    let whole = remade c.args.tickets.items c.remove.new.self.items c.remove.result some_ticket c.remove.ensures.value c.remove.ensures.items in
    let own = λ (t : HeldTicket). t.series ≡ c.args.self.series in
    let first = all_here own [] c.remove.new.self.items c.remove.result (subst (All own) whole c.requires.own) in
    let this = all_here own (c.remove.result ∷ at.yielded) (into_iter_items c.next.new.self) c.in-Some.ticket
    (subst (All own) (whole ∙ ap (λ l. c.remove.result ∷ l) (sym left)) c.requires.own) in
    let mine = ap (λ o. o.series.table) c.self.view_is in
    let one = ap (λ m. m.0.tickets) c.ticket.invariant.seat in (
      i.table ∙ ap (λ t. t.series.table) c.seat.view_is ∙ ap (λ s. s.table) first ∙ sym mine,
      ap (λ t. t.series.table) c.ticket.view_is ∙ ap (λ s. s.table) this ∙ sym mine,
      ap (λ m. m.1) c.ticket.invariant.seat,
      omega (arith, jobs.words),
      joins _ _ _ _ _ _ (let t = i.joined in omega arith),
    )

pub loop-ticket-preserved : goal.loop-ticket-preserved
loop-ticket-preserved c =
    let at = c.loop-ticket in let i = at.invariant in let x = c.in-Some.ticket in
    let steps : into_iter_items at.ticket-iterator ≡ x ∷ into_iter_items c.next.new.self = c.in-Some.ensures.steps.0 in
    let j = c.join_seat.ensures in let other = c.ticket.invariant.seat in
    let view = c.ticket.view_is in let p = c.push_reserved-in-loop-ticket.ensures in
    let long = length-append at.yielded (x ∷ []) in
    let numbers = ap (λ m. m.0.drawn) other ∙ ap (λ t. t.numbers) view in record {
      tickets = append_assoc at.yielded (x ∷ []) _ ∙ rw (← steps) i.tickets;
      rest = (let gone = c.in-Some.ensures.steps.1 in let short = ap length steps in let was = i.rest in omega arith);
      table = j.0 ∙ i.table;
      no_view = ap (λ m. m.1) j.2 ∙ i.no_view;
      joined = (let a = ap (λ m. m.0.tickets) j.2 in let b = ap (λ m. m.0.tickets) other in let was = i.joined in omega arith);
      told_none = (let a = ap (λ m. m.0.told_none) j.2 in
          let b = ap (λ m. m.0.told_none) other ∙ ap (λ t. if t.told_none then 1 else 0) view in
          let o = sum_by_push (λ (t : HeldTicket). cond t.told_none 1 0) at.yielded x in
          let was = i.told_none in omega arith);
      drawn = ap (λ m. m.0.drawn) j.2 ∙ ap (λ l. l ++ c.ticket.inside.seat.me.0.drawn) i.drawn
          ∙ append_assoc c.seat.inside.seat.me.0.drawn (flat_map (λ (t : HeldTicket). t.numbers) at.yielded) c.ticket.inside.seat.me.0.drawn
          ∙ ap (λ l. c.seat.inside.seat.me.0.drawn ++ l)
          (ap (λ z. flat_map (λ (t : HeldTicket). t.numbers) at.yielded ++ z) numbers ∙ sym
          (flat_map-push (λ (t : HeldTicket). t.numbers) at.yielded x));
      all_numbers = listed-push (λ (d : Drawn). d.numbers.items) (λ (t : HeldTicket). t.numbers) _ at.spare.items c.push_reserved.new.self.items _ at.yielded x p.items i.all_numbers
          (ap (λ t. t.numbers) view);
      all_told = listed-push (λ (d : Drawn). d.told_none) (λ (t : HeldTicket). t.told_none) _ at.spare.items c.push_reserved.new.self.items _ at.yielded x p.items i.all_told
          (ap (λ t. t.told_none) view);
      number = (let a = p.len in let was = i.number in omega arith);
      capacity = p.capacity ∙ i.capacity;
    }

pub returns-clause-fair : goal.returns-clause-fair
returns-clause-fair c =
    let at = c.loop-ticket in let i = at.invariant in let jobs = c.self.invariant in
    let empty : into_iter_items at.ticket-iterator ≡ [] = nil_from_length _ (sym i.rest ∙ c.in-None.ensures.steps.0) in
    let done = sym (append-nil at.yielded) ∙ ap (λ l. at.yielded ++ l) (sym empty) ∙ i.tickets ∙ c.into_iter-ticket-iterator.ensures.into_iter_gives.0 in
    let some_ticket : 0 < length c.args.tickets.items = let l = c.requires.all in let s = ap (λ o. o.seats) c.self.view_is in omega (arith, jobs.some_seat) in
    let whole : c.args.tickets.items ≡ c.remove.result ∷ at.yielded =
    remade c.args.tickets.items c.remove.new.self.items c.remove.result some_ticket c.remove.ensures.value c.remove.ensures.items ∙ ap
    (λ l. c.remove.result ∷ l) (sym done) in
    let last = c.close_with.ensures.values.2 in let first = c.seat.invariant.seat in
    let view = c.seat.view_is in
    let all_seats : at.seat.me.0.tickets ≡ c.self.inside.table.shared.key.seats =
    let l = ap length whole in let s = ap (λ o. o.seats) c.self.view_is in let k = ap (λ k. k.seats) jobs.key in let t = i.joined in let r = c.requires.all in
    omega arith in
    let known = knows_all _ _ _ _ last.0 last.1.0 last.1.1 all_seats in
    let total = ap (λ k. k.total) jobs.key ∙ ap (λ o. o.series.total) c.self.view_is in
    let found_none = ap (λ m. m.0.told_none) first ∙ ap (λ t. if t.told_none then 1 else 0) view in
    let numbers = ap (λ m. m.0.drawn) first ∙ ap (λ t. t.numbers) view in
    let out = drawn_by_all _ known.word at.seat.me.0.told_none at.seat.me.0.drawn (c.remove.result ∷ at.yielded) known.fair known.drawn known.steps
    (i.drawn ∙ ap (λ l. l ++ flat_map (λ (t : HeldTicket). t.numbers) at.yielded) numbers)
    (let b = i.told_none in let d = sum_by-cons (λ (t : HeldTicket). cond t.told_none 1 0) c.remove.result at.yielded in omega arith) in
    subst (λ (n : ℕ). AreDrawn n c.args.tickets.items) total
    (subst (λ (ts : List HeldTicket). AreDrawn c.self.inside.table.shared.key.total ts) (sym whole) out)
