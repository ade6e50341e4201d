use Rattle.pg_board.proofs.Common.{◌≡◌, ◌≤◌, ◌+◌, ◌-◌, ℕ, false, ap, rules, subst, state_of, IsFull, In, unsettled, arith, arc_value}
use Rattle.pg_board.specs.BoardRecord.{BoardRecord, SessionRecord}
use Rattle.pg_board.specs.Slices.{slices_left, IsCharged, IsLastCharged}
use Rattle.pg_board.proofs.Slices.{still_open, in_session, charged_in_session}
use Rattle.pg_board.proofs.session.Session.advance.Goals as goal

-- the board after the slice is not full
not_full : (c : goal.After-is_full) → c.is_full.result ≡ false
    → IsFull c.advance-answer.new.self.graph (state_of c.advance-answer.new.self.journal) → ⊥
not_full c =
    let graph : c.deref-2.result.now ≡ c.advance-answer.new.self.graph = search rules in
    let journal : c.contents.result.now.entries.items ≡ c.advance-answer.new.self.journal = search rules in
    still_open _ _ _ _ _ graph journal c.is_full.ensures

-- the slices that remain, of the board and of the session
remain : (c : goal.After-is_full) (k : ℕ)
    → slices_left c.attach-board.result.graph c.in_ok-self-inside.field-0 + k ≤ slices_left c.attach-board.result.graph c.replace-stage.result
    → slices_left (arc_value c.self.inside.game) c.in_ok-self-inside.field-0 + k ≤ c.args.self.now.slices
remain c k here =
    let graph : c.attach-board.result.graph ≡ arc_value c.self.inside.game = search rules in
    let stage : c.replace-stage.result ≡ c.self.inside.stage = search rules in
    in_session _ _ c.in_ok-self-inside.field-0 _ _ _ k graph stage (ap (λ (x : SessionRecord). x.slices) c.self.view_is) here

pub returns-clause-nearer : goal.returns-clause-nearer
returns-clause-nearer c = λ open_still some.
    omega (arith, remain c 1 (omega (arith, c.in_ok-self-inside.ensures.nearer (not_full c open_still) some)))

pub returns-clause-taken : goal.returns-clause-taken
returns-clause-taken c = λ open_still. remain c (c.args.steps.now - c.advance-answer.new.steps) (c.in_ok-self-inside.ensures.taken (not_full c open_still))

pub returns-clause-charged : goal.returns-clause-charged
returns-clause-charged c = λ open_still.
    let graph : c.attach-board.result.graph ≡ arc_value c.self.inside.game = search rules in
    let stage : c.replace-stage.result ≡ c.self.inside.stage = search rules in
    charged_in_session (λ g n k. IsCharged n k (slices_left g c.in_ok-self-inside.field-0) c.args.steps.now c.advance-answer.new.steps) _ _ _ _ c.args.self.now graph stage
    (ap (λ (x : SessionRecord). x.board.graph) c.self.view_is) (ap (λ (x : SessionRecord). x.slices) c.self.view_is)
    (c.in_ok-self-inside.ensures.charged (not_full c open_still))

pub returns-clause-last : goal.returns-clause-last
returns-clause-last c = λ done v o.
    let graph : c.attach-board.result.graph ≡ arc_value c.self.inside.game = search rules in
    let stage : c.replace-stage.result ≡ c.self.inside.stage = search rules in
    let full : IsFull c.advance-answer.new.self.graph (state_of c.advance-answer.new.self.journal) = search rules in
    let before : In (unsettled c.attach-board.result.graph (state_of c.attach-board.result.journal)) v = search rules in
    charged_in_session (λ g n k. IsLastCharged n k c.args.steps.now c.advance-answer.new.steps) _ _ _ _ c.args.self.now graph stage
    (ap (λ (x : SessionRecord). x.board.graph) c.self.view_is) (ap (λ (x : SessionRecord). x.slices) c.self.view_is)
    (c.in_ok-self-inside.ensures.last full v before)

pub returns-clause-whole : goal.returns-clause-whole
returns-clause-whole c = λ full.
    let board : c.args.self.now.board ≡ c.attach-board.result = search rules in
    let before : IsFull c.attach-board.result.graph (state_of c.attach-board.result.journal) =
    subst (λ (b : BoardRecord). IsFull b.graph (state_of b.journal)) board full in
    let same = c.in_ok-self-inside.ensures.whole before in
    search (rules, same.0, same.1, same.2, before)

pub returns-in_err-self-inside-clause-whole : goal.returns-in_err-self-inside-clause-whole
returns-in_err-self-inside-clause-whole c = λ full.
    let board : c.args.self.now.board ≡ c.attach-board.result = search rules in
    let before : IsFull c.attach-board.result.graph (state_of c.attach-board.result.journal) =
    subst (λ (b : BoardRecord). IsFull b.graph (state_of b.journal)) board full in
    absurd (search (rules, c.in_err-self-inside.ensures.whole before))
