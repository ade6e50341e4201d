use Rattle.pg_dominion.proofs.Common.{◌≡◌, ◌∷◌, [], ℕ, true, List, slice_index, refl, sym, ◌∙◌, subst, arith, below_more, Option, ◌==◌, list_any}
use Rattle.pg_dominion.proofs.Common.{Contains-append_left, In, ClaimRows, IsRightRow, named, choice_in}
use Rattle.std.proofs.lemmas.List.Elements.{Contains-append_right}
use Rattle.pg_game.proofs.Gathered.{any_from}
use Rattle.pg_dominion.proofs.Rows.{named_right}
use Rattle.pg_dominion.proofs.claim.NoWayBack.{kept_in_row, LeadsToListed-from_row, longer_push, AreNamed-push, named_vertex}
use Rattle.pg_dominion.proofs.claim.expand.Goals.{then-priority-top-via-then-priority-top, then-priority-top-via-else-priority-top+then-contains}
use Rattle.pg_dominion.proofs.claim.expand.Goals as goal

pub kept_successors-ends-requires : goal.kept_successors-ends-requires
kept_successors-ends-requires c =
    let claim = c.args.claim.now in
    (named_right c.args.game.now claim.player claim.rows c.args.v c.requires.shape.right.each c.requires.vertex).vertex

pub returns-clause-stays : goal.returns-clause-stays
returns-clause-stays c = λ _.
    let claim = c.args.claim.now in
    let g = c.args.game.now in
    let e : choice_in claim.rows c.args.v ≡ c.in-Some.choice
    = subst (λ (xs : ClaimRows). choice_in xs c.args.v ≡ c.in-Some.choice) c.as_slice-rows.ensures c.in-Some.ensures.1 in
    let right : IsRightRow g claim.player (c.args.v, c.in-Some.choice)
    = subst (λ (o : Option ℕ). IsRightRow g claim.player (c.args.v, o)) e
    (named_right g claim.player claim.rows c.args.v c.requires.shape.right.each c.requires.vertex) in
    LeadsToListed-from_row g claim.player claim.rows c.args.start c.ends.list.items c.args.v c.kept_successors-ends.result.now c.ends.end-index
    (c.kept_successors-ends.ensures ∙ kept_in_row g claim.player claim.rows c.args.v c.in-Some.choice right e)
    (omega (arith, c.ends-test.false)) c.ends.invariant.stays

pub ends-preserved-then-priority-top : goal.ends-preserved-then-priority-top
ends-preserved-then-priority-top c =
    let q = c.ends.list.items in let u = slice_index c.kept_successors-ends.result.now c.ends.end-index in
    record {
      within = c.ends.invariant.within;
      longer = c.ends.invariant.longer;
      stays = below_more _ _ c.ends.invariant.stays (λ n low. elim c.then-priority-top.branch [
        | then-priority-top-via-then-priority-top w ↦ absurd (omega (arith, low, w.if-priority-top.true, c.priority.ensures, c.priority-top.ensures))
        | then-priority-top-via-else-priority-top+then-contains w ↦
            (let t : list_any (λ (y : ℕ). y == u) q ≡ true = subst (λ (xs : List ℕ). list_any (λ (y : ℕ). y == u) xs ≡ true) w.as_slice.ensures.value
            (sym w.contains.ensures.value ∙ w.if-contains.true) in (c.if-w-start.false, any_from q u t))
      ]);
    }

pub ends-preserved : goal.ends-preserved
ends-preserved c =
    let claim = c.args.claim.now in
    let q = c.ends.list.items in
    let ws = c.kept_successors-ends.result.now in
    let u = slice_index ws c.ends.end-index in
    let h = c.in-Some-choice_at.ensures in
    let i : In (named claim.rows) u = subst (λ (xs : ClaimRows). In (named xs) u) c.as_slice-rows.ensures h.0 in
    rw c.in_ok-push.ensures.items record {
      within = AreNamed-push claim.rows q u c.ends.invariant.within i;
      longer = longer_push c.args.list.now.items q u c.ends.invariant.longer;
      stays = below_more _ _ (λ k lk n low. let old = c.ends.invariant.stays k lk n low in (old.0, Contains-append_left q (u ∷ []) (slice_index ws k) old.1))
          (λ n low. (c.if-w-start.false, Contains-append_right q (u ∷ []) u (0, omega arith, refl)));
    }

pub priority-requires : goal.priority-requires
priority-requires c = named_vertex _ _ _ _ _ c.as_slice-rows.ensures c.requires.shape.right.each c.in-Some-choice_at.ensures.0
