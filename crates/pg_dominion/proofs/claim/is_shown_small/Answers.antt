use Rattle.pg_dominion.proofs.Common.{◌≡◌, ◌<◌, ℕ, length, get_or, sym, arith, below_more, rules, None, eq-eqb, In, ClaimRows, named}
use Rattle.std.proofs.lemmas.List.Folds.{list_any_at}
use Rattle.pg_dominion.proofs.Rows.{named_right}
use Rattle.pg_dominion.proofs.claim.NoWayBack.{none_from_rows}
use Rattle.pg_dominion.proofs.claim.is_shown_small.Goals.{else-is_bad-via-then-is_bad+in_ok-never_returns+else-not-branch, else-is_bad-via-else-is_bad}
use Rattle.pg_dominion.proofs.claim.is_shown_small.Goals as goal

-- a row names its vertex
named_at : (xs rows : ClaimRows) (i : ℕ) → xs ≡ rows → i < length xs → In (named rows) (get_or xs i (0, None)).0
named_at xs rows i e l = search (rules, list_any_at, eq-eqb)

pub rows-init : goal.rows-init
rows-init c = λ i l. absurd (omega (arith, l))

pub is_bad-requires : goal.is_bad-requires
is_bad-requires c =
    let claim = c.args.claim.now in
    let n = named_at c.as_slice-rows.result.now claim.rows c.rows.row-index c.as_slice-rows.ensures c.rows-test.true in
    (named_right c.args.game.now claim.player claim.rows _ c.requires.right.each n).vertex

pub never_returns-requires-clause-start : goal.never_returns-requires-clause-start
never_returns-requires-clause-start c =
    let claim = c.args.claim.now in
    let n = named_at c.as_slice-rows.result.now claim.rows c.rows.row-index c.as_slice-rows.ensures c.rows-test.true in
    (named_right c.args.game.now claim.player claim.rows _ c.requires.right.each n).vertex

pub never_returns-requires-clause-vertex : goal.never_returns-requires-clause-vertex
never_returns-requires-clause-vertex c = named_at c.as_slice-rows.result.now c.args.claim.now.rows c.rows.row-index c.as_slice-rows.ensures c.rows-test.true

pub rows-preserved : goal.rows-preserved
rows-preserved c =
    let claim = c.args.claim.now in
    let g = c.args.game.now in
    let rows = c.as_slice-rows.result.now in
    below_more _ _ c.rows.invariant (elim c.else-is_bad.branch [
      | else-is_bad-via-then-is_bad+in_ok-never_returns+else-not-branch w ↦ (λ _. w.in_ok-never_returns.ensures w.if-not-branch.false)
      | else-is_bad-via-else-is_bad w ↦ (λ t. absurd (cc (t, sym c.is_bad.ensures, w.if-is_bad.false)))
    ])

pub returns : goal.returns
returns c = search (rules, none_from_rows, c.as_slice-rows.ensures, c.rows-test.false, c.rows.invariant)
