use Rattle.pg_board.proofs.Common.{◌≡◌, ◌<◌, length, refl, sym, ◌∙◌, ap, subst, arith, Claim, ClaimRows, Journal, BoardRecord, rest_of}
use Rattle.pg_board.proofs.Common.{IsGoodOn, state_of, Refuses, Adds}
use Rattle.pg_board.proofs.RestIsGood.{rest_is_good, rest_twice}
use Rattle.pg_board.proofs.board.PostChecks.{IsChecked, record_with, rest_now, rest_right_here, rest_open, refused_open, claim_good, nonempty, sound_here, adds_claim, few_rows}
use Rattle.pg_board.specs.declared.journal.Refusal.TheVariants as refusal
use Rattle.pg_board.proofs.board.Board.settle_sound.Goals.{After-as_slice}
use Rattle.pg_board.proofs.board.Board.settle_sound.Goals as goal

-- the claim and its rest
checked : (c : After-as_slice)
    → IsChecked c.self.inside.game.now c.self.inside.contents.entries.items c.self.inside.contents.regions c.self.inside.contents.number c.args.claim.now.player
    c.args.claim.now.rows c.as_slice.result.now
checked c = record {
  board = c.self.invariant;
  sound = sound_here c.self.view_is c.requires;
  none = c.in_default.ensures;
  rest_is = c.as_slice.ensures.value ∙ c.rest_of.ensures.rows;
}

pub rest_of-requires-clause-spare : goal.rest_of-requires-clause-spare
rest_of-requires-clause-spare c =
    omega (arith, few_rows (sound_here c.self.view_is c.requires).shape.right, c.in_ok-rows.ensures.capacity, c.len-n.ensures.number)

pub first_open-edge-requires-clause-right : goal.first_open-edge-requires-clause-right
first_open-edge-requires-clause-right c = rest_right_here (checked (goal.at.first_open-edge-requires-clause-right c).After-as_slice)

pub first_open-edge-requires-clause-unsettled : goal.first_open-edge-requires-clause-unsettled
first_open-edge-requires-clause-unsettled c = rest_open (checked (goal.at.first_open-edge-requires-clause-unsettled c).After-as_slice)

pub returns-in-Some-edge-clause-refused : goal.returns-in-Some-edge-clause-refused
returns-in-Some-edge-clause-refused c =
    let claim = c.args.claim.now in
    let edge = c.in-Some-edge in
    let h = checked (goal.at.returns-in-Some-edge-clause-refused c).After-as_slice in
    subst (λ (x : BoardRecord). Refuses x.graph (state_of x.journal) claim.player claim.rows (refusal.Open edge.v edge.w)) c.self.view_is
    (refused_open h edge.v edge.w edge.ensures.edge)

pub enter-requires-clause-good : goal.enter-requires-clause-good
enter-requires-clause-good c =
    let g = c.self.inside.game.now in
    let st = state_of c.self.inside.contents.entries.items in
    let claim = c.args.claim.now in
    let all = c.as_slice.ensures.value in
    let h = checked (goal.at.enter-requires-clause-good c).After-as_slice in
    let some = nonempty c.rest_of.new.rest.items (c.rest_of.new.rest.ok.0) (sym c.is_empty.ensures ∙ c.if-is_empty.false) in
    let good = claim_good h (subst (λ (xs : ClaimRows). 0 < length xs) (sym all) some) c.in_default-edge.ensures.edge in
    subst (λ (j : Journal). IsGoodOn g (state_of j) claim.player c.rest_of.new.rest.items) (sym c.reserve.ensures.items)
    (subst (λ (xs : ClaimRows). IsGoodOn g st claim.player xs) (sym (rest_now h) ∙ all) (rest_is_good g st claim.player claim.rows good))

pub enter-requires-clause-unsettled : goal.enter-requires-clause-unsettled
enter-requires-clause-unsettled c =
    let st = state_of c.self.inside.contents.entries.items in
    let h = checked (goal.at.enter-requires-clause-unsettled c).After-as_slice in
    subst (λ (j : Journal). rest_of (state_of j) c.rest_of.new.rest.items ≡ c.rest_of.new.rest.items) (sym c.reserve.ensures.items)
    (subst (λ (xs : ClaimRows). rest_of st xs ≡ xs) (sym (rest_now h) ∙ c.as_slice.ensures.value) (rest_twice st c.args.claim.now.rows))

pub returns-clause-posted : goal.returns-clause-posted
returns-clause-posted c =
    let claim = c.args.claim.now in
    let rest = c.rest_of.new.rest.items in
    let p = claim.player in
    let all = c.as_slice.ensures.value in
    let h = checked (goal.at.returns-clause-posted c).After-as_slice in
    let some = nonempty rest (c.rest_of.new.rest.ok.0) (sym c.is_empty.ensures ∙ c.if-is_empty.false) in
    let good = claim_good h (subst (λ (xs : ClaimRows). 0 < length xs) (sym all) some) c.in_default-edge.ensures.edge in
    let posted = c.enter.result in
    let here = subst (λ (x : BoardRecord). rest ≡ rest_of (state_of x.journal) claim.rows) c.self.view_is (sym all ∙ rest_now h) in
    let rest_claim : Claim = record { player = p; rows = rest } in
    let g = c.self.inside.game.now in
    let new = record_with g c.enter.new.self.entries.items in
    let same : record_with g c.reserve.new.self.items ≡ c.args.self.now = ap (record_with g) c.reserve.ensures.items ∙ c.self.view_is in
    let added = subst (λ (x : BoardRecord). Adds x new c.args.worker rest_claim posted) same c.enter.ensures.added in (
      subst (λ (x : BoardRecord). IsGoodOn x.graph (state_of x.journal) p claim.rows) c.self.view_is good,
      adds_claim c.args.self.now new c.args.worker p rest claim posted refl here added,
    )
