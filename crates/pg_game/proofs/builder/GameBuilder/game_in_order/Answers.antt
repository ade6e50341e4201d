use Rattle.pg_game.proofs.Common.{◌≡◌, List, [], ◌<◌, length, refl, sym, ◌∙◌, arith, rules, IsStrictlyIncreasing, IsPermutation-refl, length-map}
use Rattle.pg_game.proofs.Common.{ids_of, first_fault, rows_fault, Spec, max_vertices, ◌≤◌}
use Rattle.pg_game.proofs.Members.{Contains-nil}
use Rattle.pg_game.proofs.NoMemory.{passed_on}
use Rattle.pg_game.proofs.builder.GamesInOrder.{none_repeated, resolved_stored, resolved_game}
use Rattle.pg_game.proofs.Sound.{listed_fault}
use Rattle.pg_game.proofs.SpecificationLists.{ids_is}
use Rattle.pg_game.proofs.builder.GameBuilder.game_in_order.Goals as goal

listed : (specs : List Spec) (few : length specs ≤ max_vertices) → 0 < length specs → IsStrictlyIncreasing (ids_of specs) → first_fault specs ≡ rows_fault specs
listed specs few some up = listed_fault specs
    record { nonempty = some; vertices = few; once = none_repeated [] (ids_of specs) up (λ m x h k. absurd (Contains-nil m h)) }

pub of_rising-requires : goal.of_rising-requires
of_rising-requires c =
    let e : c.as_slice.result.now ≡ ids_of c.args.self = c.as_slice.ensures.value ∙ sym (ids_is c.self.invariant c.self.view_is) in
    rw e record { rising = c.requires.rising; short = let n = length-map c.args.self (λ s. s.id) in omega (arith, n, c.requires.limits.few) }

pub resolved-requires-clause-identifiers : goal.resolved-requires-clause-identifiers
resolved-requires-clause-identifiers c =
    let e : c.as_slice.result.now ≡ ids_of c.args.self = c.as_slice.ensures.value ∙ sym (ids_is c.self.invariant c.self.view_is) in
    rw (c.in_ok-identifiers.ensures.identifiers, e) (IsPermutation-refl (ids_of c.args.self))

pub returns-in_err-resolved-clause-fault : goal.returns-in_err-resolved-clause-fault
returns-in_err-resolved-clause-fault c =
    rw (listed c.args.self c.requires.limits.few c.requires.limits.some c.requires.rising) (search (rules, passed_on, c.in_err-resolved.ensures.fault))

pub into_game-requires : goal.into_game-requires
into_game-requires c =
    let e : c.in_ok-identifiers.identifiers ≡ ids_of c.args.self =
    c.in_ok-identifiers.ensures.identifiers ∙ (c.as_slice.ensures.value ∙ sym (ids_is c.self.invariant c.self.view_is)) in
    let sound = listed c.args.self c.requires.limits.few c.requires.limits.some c.requires.rising ∙ c.in_ok-resolved.ensures.sound in
    let p = rw e at c.in_ok-resolved.ensures.resolved in
    rw e (resolved_stored sound c.requires.limits.numbers (IsPermutation-refl c.args.self) refl c.requires.rising p)

pub returns-clause-game : goal.returns-clause-game
returns-clause-game c =
    let e : c.in_ok-identifiers.identifiers ≡ ids_of c.args.self =
    c.in_ok-identifiers.ensures.identifiers ∙ (c.as_slice.ensures.value ∙ sym (ids_is c.self.invariant c.self.view_is)) in
    let sound = listed c.args.self c.requires.limits.few c.requires.limits.some c.requires.rising ∙ c.in_ok-resolved.ensures.sound in
    let p = rw e at c.in_ok-resolved.ensures.resolved in
    let made = resolved_game sound c.requires.limits.numbers (IsPermutation-refl c.args.self) refl c.requires.rising p in
    rw (c.into_game.ensures, e) (made.0, made.1, sound)
