use Rattle.pg_finders.proofs.Common.{◌≡◌, ◌≢◌, ◌∙◌, inl, inr, refl, sym, rules, length, In, IsNone, owner_of, listed, or_left, false_from_ne_true}
use Rattle.pg_finders.proofs.Common.{Option, None, Some, IfSome, true}
use Rattle.std.specs.Option.{is_some}
use Rattle.pg_finders.specs.private.recursion.Settled.{since}
use Rattle.pg_finders.specs.private.recursion.Partition.{free_of, FitsPartition}
use Rattle.pg_finders.proofs.Sets.{no_both}
use Rattle.pg_finders.proofs.recursion.AttractedVertices.{leads_own, leads_other, fit_moved, free_moved, tests_left, tests_put}
use Rattle.pg_finders.proofs.recursion.partition.Partition.test.Goals as goal

pub returns-then-not-has_free : goal.returns-then-not-has_free
returns-then-not-has_free c = tests_left (record { free = refl; settled = refl; active = refl; plan = refl }) c.requires.fit
    (λ f. absurd (no_both f (sym c.has_free.ensures ∙ c.if-not-has_free.true)))

-- the player's vertex leads to what is settled for him, or to nothing of it

pub returns-in_default : goal.returns-in_default
returns-in_default c =
    let own : owner_of c.args.game.now c.args.v ≡ c.args.target.player = search rules in
    let none : IsNone c.won_successor.result = search rules in
    tests_left (record { free = refl; settled = refl; active = refl; plan = refl }) c.requires.fit (λ f. inr (inl (
      own,
      λ w e. false_from_ne_true (listed (since c.args.target c.args.self.now.settled) w) (c.won_successor.ensures.none none w e),
    )))

pub returns-then-eq : goal.returns-then-eq
returns-then-eq c =
    let g = c.args.game.now in
    let p = c.args.target.player in
    let first = since c.args.target c.args.self.now.settled in
    let free : In (free_of c.args.free c.args.self.now) c.args.v = search rules in
    let own : owner_of g c.args.v ≡ p = search rules in
    let found = c.in-Some.ensures.found in
    rw c.in_ok-put.ensures.items (tests_put c.requires.target (record { free = refl; settled = refl; active = refl; plan = refl })
    (let h = c.in_ok-put.ensures.fit (length g) c.requires.fit in rw c.in_ok-put.ensures.items at h) c.in_ok-put.ensures.puts
    (leads_own g p first c.requires.fit c.requires.target.apart c.args.v free own c.in-Some.w found.0 found.1))

-- the opponent's vertex leads to a free one, or to none

some_of : {A : Type 0} {P : A → Type 0} (r : Option A) → is_some r ≡ true → IfSome r P → (x : A) × P x
some_of None e h = absurd (cc e)
some_of (Some x) e h = (x, h)

pub returns-then-is_some : goal.returns-then-is_some
returns-then-is_some c =
    let t = c.args.free in
    let h = c.free_successor.ensures in
    let other : owner_of c.args.game.now c.args.v ≢ c.args.target.player = search rules in
    let q = some_of c.free_successor.result (sym c.is_some.ensures ∙ c.if-is_some.true) h.found in
    let D = listed (since c.args.target c.args.self.now.settled) in
    tests_left h.moved (fit_moved t h.moved h.partition c.requires.fit) (λ f. inr (inr (
      other,
      (
        q.0,
        q.1.0,
        or_left (free_of t c.args.self.now q.0) (D q.0) q.1.1,
        false_from_ne_true (D q.0) (λ i. no_both q.1.1 (c.requires.target.apart q.0 i)),
      ),
    )))

fit : (c : goal.In_ok-put-2) → FitsPartition (length c.args.game.now) c.args.free c.free_successor.new.self c.args.list.now.items
fit c = fit_moved c.args.free c.free_successor.ensures.moved c.free_successor.ensures.partition c.requires.fit

pub returns : goal.returns
returns c =
    let g = c.args.game.now in
    let p = c.args.target.player in
    let first = since c.args.target c.args.self.now.settled in
    let x = c.free_successor.new.self in
    let free : In (free_of c.args.free c.args.self.now) c.args.v = search rules in
    let now : In (free_of c.args.free x) c.args.v = free_moved c.args.free c.free_successor.ensures.moved c.args.v ∙ free in
    let other : owner_of g c.args.v ≢ p = search rules in
    let none : IsNone c.free_successor.result = search rules in
    rw c.in_ok-put-2.ensures.items (tests_put c.requires.target c.free_successor.ensures.moved
    (let h = c.in_ok-put-2.ensures.fit (length g) (fit c) in rw c.in_ok-put-2.ensures.items at h) c.in_ok-put-2.ensures.puts
    (leads_other g p first (fit c) (λ w i. free_moved c.args.free c.free_successor.ensures.moved w ∙ c.requires.target.apart w i) c.args.v now other
    (λ w e i. c.free_successor.ensures.none none w e (sym (free_moved c.args.free c.free_successor.ensures.moved w) ∙ i))))
