use Rattle.pg_game.proofs.Common.{rules}
use Rattle.pg_game.proofs.Common.{◌≡◌, ◌∙◌, arith}
use Rattle.pg_game.proofs.Common.{Spec, first_fault, rows_fault, length-map}
use Rattle.pg_game.proofs.builder.GamesWithoutFault.{no_spec}
use Rattle.pg_game.proofs.builder.GamesInOrder.{resolved_stored, resolved_game}
use Rattle.pg_game.proofs.builder.PickedSpecifications.{named_moves, lines_fit, specs_move, picked_ids, picked_resolved}
use Rattle.pg_game.proofs.Sound.{listed_fault}
use Rattle.pg_game.proofs.builder.GameBuilder.game_by_sorting.Goals as goal

pub resolved-requires-clause-identifiers : goal.resolved-requires-clause-identifiers
resolved-requires-clause-identifiers c = search (rules, named_moves, c.as_slice-lines.ensures.value, c.in_ok-list.ensures, c.in_ok-identifiers.ensures.identifiers)

pub picked-requires : goal.picked-requires
picked-requires c =
    let lines = rw (← c.as_slice-lines.ensures.value) at c.in_ok-list.ensures in
    λ k d l. (let h = (lines_fit lines.paired k d l).0 in
    omega (arith, h, length-map c.args.self (λ (s : Spec). s.id), c.in_ok-resolved.ensures.resolved.size))

pub into_game-requires : goal.into_game-requires
into_game-requires c =
    let e : first_fault c.args.self ≡ rows_fault c.args.self =
    listed_fault c.args.self record { nonempty = c.requires.some; vertices = c.requires.few; once = c.in_ok-identifiers.ensures.once } in
    let lines = c.in_ok-list.ensures in
    let identifiers = c.in_ok-identifiers.ensures.identifiers in
    let p = rw (identifiers, c.as_slice-lines.ensures.value) at c.in_ok-resolved.ensures.resolved in
    let up = rw c.as_slice-lines.ensures.value at c.in_ok-identifiers.ensures.rising in
    rw (c.in_ok-sorted.ensures no_spec, c.as_slice-lines.ensures.value, identifiers, c.as_slice-lines.ensures.value)
    (resolved_stored (e ∙ c.in_ok-resolved.ensures.sound) c.requires.numbers (specs_move c.args.self c.in_ok-list.list.items lines.paired no_spec)
    (picked_ids c.args.self c.in_ok-list.list.items lines.paired no_spec) up (picked_resolved c.args.self c.in_ok-list.list.items lines.paired no_spec p))

pub returns-clause-game : goal.returns-clause-game
returns-clause-game c =
    let e : first_fault c.args.self ≡ rows_fault c.args.self =
    listed_fault c.args.self record { nonempty = c.requires.some; vertices = c.requires.few; once = c.in_ok-identifiers.ensures.once } in
    let sound = e ∙ c.in_ok-resolved.ensures.sound in
    let lines = c.in_ok-list.ensures in
    let identifiers = c.in_ok-identifiers.ensures.identifiers in
    let p = rw (identifiers, c.as_slice-lines.ensures.value) at c.in_ok-resolved.ensures.resolved in
    let up = rw c.as_slice-lines.ensures.value at c.in_ok-identifiers.ensures.rising in
    let made = resolved_game sound c.requires.numbers (specs_move c.args.self c.in_ok-list.list.items lines.paired no_spec)
    (picked_ids c.args.self c.in_ok-list.list.items lines.paired no_spec) up (picked_resolved c.args.self c.in_ok-list.list.items lines.paired no_spec p) in
    rw (c.into_game.ensures, c.in_ok-sorted.ensures no_spec, c.as_slice-lines.ensures.value, identifiers, c.as_slice-lines.ensures.value) (made.0, made.1, sound)
