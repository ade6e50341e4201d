use Rattle.pg_dominion.proofs.Common.{◌≡◌, ℕ, ◌<◌, true, get_or, OnBadWalk, named, choice_in, is_bad}
use Rattle.std.proofs.Common.{None}
use Rattle.pg_dominion.proofs.claim.is_shown_small.Given as goal

abbrev pub invariant-rows : goal.invariant-rows
invariant-rows l =
    (i : ℕ) → i < l.row-index → is_bad l.game l.claim.player (get_or l.rows i (0, None)).0 ≡ true
    → OnBadWalk l.game l.claim.player (named l.claim.rows) (choice_in l.claim.rows) (get_or l.rows i (0, None)).0 → ⊥
