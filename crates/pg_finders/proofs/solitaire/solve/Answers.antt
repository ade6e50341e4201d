use Rattle.pg_finders.proofs.Common.{ℕ, ◌<◌, length, arith, rules, opponent, NoneHas, In}
use Rattle.pg_finders.proofs.Common.{members, member_below, IsOnBadCycle, own_choices, rows_below, choices_by}
use Rattle.pg_game.specs.Least.{IsLeast}
use Rattle.pg_finders.proofs.solitaire.ForcedPlayer.{all_held, bad_cycle_leads, bad_cycle_parity, lead_held, held_good, ok_good}
use Rattle.pg_finders.proofs.solitaire.solve.Goals as goal

pub returns-in-None : goal.returns-in-None
returns-in-None c =
    let g = c.args.solitaire.now.view.game.now in
    let U = members c.args.solitaire.now.view.mask.now in
    let q = c.args.solitaire.now.forced in
    let k = c.in_ok-kept.kept in
    let made = c.in_ok-kept.ensures in
    let inside : (x : ℕ) → In U x → x < length g = λ x m. omega (arith, member_below c.args.solitaire.now.view.mask.now x m, c.args.solitaire.now.view.size) in
    let none : NoneHas (IsOnBadCycle k) = search rules in
    let held = rw made.game at (all_held g k U q inside made none) in
    let some = c.requires in
    ok_good g U q (rows_below U (own_choices g q (choices_by c.as_slice.result.now)) (length g)) c.claim_of_set.result c.claim_of_set.ensures.player
    c.claim_of_set.ensures.rows
    (rw c.as_slice.ensures.value (held_good g U q U k.choices.items inside held some.0 some.1))

pub returns : goal.returns
returns c =
    let g = c.args.solitaire.now.view.game.now in
    let U = members c.args.solitaire.now.view.mask.now in
    let q = c.args.solitaire.now.forced in
    let k = c.in_ok-kept.kept in
    let made = c.in_ok-kept.ensures in
    let inside : (x : ℕ) → In U x → x < length g = λ x m. omega (arith, member_below c.args.solitaire.now.view.mask.now x m, c.args.solitaire.now.view.size) in
    let v = c.in-Some.goal in
    let lead = c.in_ok-lead-in-Some.lead in
    let least : IsLeast (IsOnBadCycle k) v = rw c.in-Some.is at c.in_ok-least_on_bad_cycle.ensures in
    let walk = rw made.game at (bad_cycle_leads g k U q inside made v least.has) in
    let parity = rw made.game at (bad_cycle_parity g k U q inside made v least.has) in
    let there = c.in_ok-lead-in-Some.ensures.all v walk.0 walk.1 in
    let held = lead_held g U q c.args.solitaire.now.one v lead.taken lead.next.items c.in_ok-lead-in-Some.ensures.leading there parity in
    ok_good g U (opponent q) (rows_below (members lead.taken) (own_choices g (opponent q) (choices_by c.as_slice-in-Some.result.now))
    (length g)) c.claim_of_set-in-Some.result (rw (← c.other.ensures) c.claim_of_set-in-Some.ensures.player)
    (rw (← c.other.ensures) c.claim_of_set-in-Some.ensures.rows)
    (rw c.as_slice-in-Some.ensures.value (held_good g U (opponent q) (members lead.taken) lead.next.items inside held v there))
