-- The names that several proofs of this crate cite, passed on from one place. Declares nothing.
pub use mathlib.Core.Path.{fun_ext}
pub use Rattle.std.proofs.Common.{Bool, IfSome, List, [], ap, arith, below_more, drop, false, get_or, get_or-set_other, get_or-set_same, inl, inr, length}
pub use Rattle.std.proofs.Common.{length-append, length-set, lt-ltb, ltb-true, map, refl, rules, set, slice_index, subst, suc, sym, take, true, zero}
pub use Rattle.std.proofs.Common.{ℕ, ◌&&◌, ◌++◌, ◌+◌, ◌-◌, ◌<◌, ◌||◌, ◌↔◌, ◌∙◌, ◌∷◌, ◌≡◌, ◌≢◌, ◌≤◌, ◌⊎◌}
pub use Rattle.std.proofs.Math.Bool.{or-false}
pub use Rattle.std.proofs.lemmas.Bool.{cases_Bool, cases_eq, cases_lt, eq-eqb, eqb-true, false_from_ne_true, ne_eqb, or_cases, or_left, or_parts, or_right}
pub use Rattle.std.proofs.lemmas.Bool.{true≢false}
pub use Rattle.std.proofs.lemmas.List.{append-nil, get_or-replicate, get_or_append_left, get_or_default, get_or_past, get_or_push, get_or_read, length-map}
pub use Rattle.std.proofs.lemmas.List.{take-append-drop, take-append-le, take_all, take_more}
pub use Rattle.std.proofs.lemmas.List.Elements.{Contains-append_left, Contains-get_or}
pub use Rattle.std.proofs.lemmas.List.Folds.{list_any-append}
pub use Rattle.std.proofs.lemmas.Map.Keys.{below_from_sorted, sorted_from_strictly_increasing}
pub use Rattle.std.specs.List.{AllByRecursion, Contains, list_any}
pub use Rattle.std.specs.List.Sorted.{IsStrictlyIncreasing}
pub use Rattle.std.specs.Prelude.{None, Option, Some, if◌then◌else◌, vec_capacity, ◌==◌}
pub use Rattle.pg_game.proofs.Edges.{edge_inside}
pub use Rattle.pg_game.proofs.Masks.{member_below}
pub use Rattle.pg_game.proofs.Players.{is_same, same_is}
pub use Rattle.pg_game.proofs.Rows.{below_or_last}
pub use Rattle.pg_game.proofs.Walks.{ClosedWalk-weaker, Walk-weaker}
pub use Rattle.pg_game.specs.Graph.{Graph, HasEdge, IsGame, owner_of, priority_of, successors_of}
pub use Rattle.pg_game.specs.Kept.{Choices, KeptEdge, kept}
pub use Rattle.pg_game.specs.Least.{IsLeast, NoneHas}
pub use Rattle.pg_game.specs.Player.{of_parity, opponent, same_player}
pub use Rattle.pg_game.specs.Region.{OnBadWalk}
pub use Rattle.pg_game.specs.Subgame.{IsSubgame}
pub use Rattle.pg_game.specs.VertexSet.{In, VertexSet, Within, members, union}
pub use Rattle.pg_game.specs.Walk.{ClosedWalk, Walk, greatest, greatest_priority}
pub use Rattle.pg_game.specs.declared.player.Player.{Player}
pub use Rattle.pg_text.specs.Solution.{winner_of}
pub use Rattle.pg_text.specs.Verdict.{HasBadChoice, LacksChoice, Leaves}
pub use Rattle.pg_dominion.specs.AttractorState.{AttractsNoFurther, IsTakenOrOpen, Takes, listed_by}
pub use Rattle.pg_dominion.specs.Attraction.{IsAttractedRow, IsAttraction}
pub use Rattle.pg_dominion.specs.Checked.{AgreesAt, AgreesWithGame, AreChecked, RowEdge, claim_row, claim_rows, row_priority}
pub use Rattle.pg_dominion.specs.Claim.{AreRight, ClaimRows, IsRightRow, IsSound, choice_in, named}
pub use Rattle.pg_dominion.specs.KeptEdges.{Edge, IsOnBadCycle, IsStrategy, ends_at, is_bad, kept_row}
pub use Rattle.pg_dominion.specs.declared.checked.CheckedRow.{CheckedRow}
pub use Rattle.pg_dominion.specs.declared.strategy_graph.StrategyGraph.{StrategyGraph}
pub use Rattle.pg_dominion.specs.ExtendedRows.{LeadFrom}
pub use Rattle.pg_dominion.specs.private.KeptEdges.{AreLabelled, AreNoted, AreReached, EdgeUnder, GoesOn, IsFollowed, IsQueued, IsSpread, Leads, Reaches}
pub use Rattle.pg_dominion.specs.private.KeptEdges.{label_lists, reached_lists}
pub use Rattle.pg_dominion.specs.private.JointStrategy.{LeavesTo}
pub use Rattle.pg_dominion.specs.private.ListedEnds.{AreNamed, LeadsToListed}
