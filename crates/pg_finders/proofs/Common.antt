-- The names that several proofs of this crate cite, passed on from one place. Declares nothing.
pub use mathlib.Core.Path.{fun_ext}
pub use Rattle.std.proofs.Common.{All, Bool, List, [], ap, append_assoc, arith, below_more, drop, false, get_or, get_or-set_other, get_or-set_same, inl, inr}
pub use Rattle.std.proofs.Common.{length, length-append, length-set, ltb-true, map, not, refl, replicate, rules, set, slice_index, subst, suc, sym, take, true}
pub use Rattle.std.proofs.Common.{vec_len, zero, ℕ, ◌&&◌, ◌*◌, ◌++◌, ◌+◌, ◌-◌, ◌<◌, ◌||◌, ◌∙◌, ◌∷◌, ◌≡◌, ◌≢◌, ◌≤◌, ◌⊎◌}
pub use Rattle.std.proofs.Math.Bool.{and-true}
pub use Rattle.std.proofs.Math.Nat.{mul-le-mul_left}
pub use Rattle.std.proofs.lemmas.Bool.{and_from, and_parts, cases_Bool, cases_eq, cases_lt, eq-eqb, eqb-true, false_from_ne_true, or_cases, or_left, or_parts}
pub use Rattle.std.proofs.lemmas.Bool.{or_right}
pub use Rattle.std.proofs.lemmas.Grind.{common_steps}
pub use Rattle.std.proofs.lemmas.List.{append-nil, get_or-take, get_or_append_left, get_or_default, get_or_push, length-replicate, map-append, nil_from_length}
pub use Rattle.std.proofs.lemmas.List.{take-append-drop, take-append-le, take_all}
pub use Rattle.std.proofs.lemmas.List.Elements.{Contains-get_or}
pub use Rattle.std.proofs.lemmas.List.Sums.{count_by-le-length}
pub use Rattle.std.proofs.lemmas.Result.{on_ok_weaker}
pub use Rattle.std.specs.Cmp.{both_ways}
pub use Rattle.std.specs.List.{Contains, count_by, range_with_len}
pub use Rattle.std.specs.List.Sorted.{IsNonDecreasingBy}
pub use Rattle.std.specs.Prelude.{IfOk, IfSome, IsNone, None, Option, Some, if◌then◌else◌, min, slice_index_or, slice_set, ◌==◌}
pub use Rattle.pg_game.proofs.Masks.{member_below}
pub use Rattle.pg_game.proofs.Members.{Contains-cons, Contains-head, Contains-nil, Contains-tail, some_or_none}
pub use Rattle.pg_game.proofs.Players.{is_same, other_from_not, own_or_other, same_is}
pub use Rattle.pg_game.proofs.Rotate.{good_from_none}
pub use Rattle.pg_game.proofs.Walks.{ClosedWalk-weaker}
pub use Rattle.pg_game.specs.Graph.{Graph, HasEdge, owner_of, priority_of, successors_of}
pub use Rattle.pg_dominion.specs.KeptEdges.{own_choices, IsOnBadCycle}
pub use Rattle.pg_game.specs.Kept.{Choices, KeptEdge, kept, option_list}
pub use Rattle.pg_game.specs.Least.{NoneHas}
pub use Rattle.pg_game.specs.Player.{of_parity, opponent, same_player}
pub use Rattle.pg_game.specs.Region.{OnlyGoodWalks}
pub use Rattle.pg_game.specs.Subgame.{IsSubgame}
pub use Rattle.pg_game.specs.VertexSet.{In, VertexSet, Within, how_many, members, no_vertices, union, without}
pub use Rattle.pg_game.specs.Walk.{ClosedWalk, Walk, greatest_priority}
pub use Rattle.pg_game.specs.declared.player.Player.{Player}
pub use Rattle.pg_game.specs.declared.player.Player.TheVariants.{Even, Odd}
pub use Rattle.pg_dominion.proofs.Named.{choice-back, choice-front, named-append}
pub use Rattle.pg_dominion.specs.Attraction.{IsAttractedRow}
pub use Rattle.pg_dominion.specs.AttractorState.{AttractsNoFurther, IsTakenOrOpen}
pub use Rattle.pg_dominion.specs.Claim.{ClaimRows, IsGoodIn, choice_in, named, row_at, vertices}
pub use Rattle.pg_dominion.specs.declared.claim.Claim.{Claim}
pub use Rattle.pg_dominion.specs.declared.strategy_graph.StrategyGraph.{StrategyGraph}
pub use Rattle.pg_finders.specs.Claims.{AreClaims, rows_below}
pub use Rattle.pg_finders.specs.Finding.{IsLoop, IsSolitaire, most_choices}
pub use Rattle.pg_finders.specs.Jobs.{IsOfSmall}
pub use Rattle.pg_finders.specs.declared.recursion.subgame.Plan.{Plan}
pub use Rattle.pg_finders.specs.declared.recursion.Frame.{Frame}
pub use Rattle.pg_finders.specs.private.Solved.{IsAttracted, IsBegun, IsSolvedInside, IsSolvedTo, Winners, WinsOn, won_inside}
pub use Rattle.pg_finders.specs.private.Singles.{itself, loops}
pub use Rattle.pg_finders.specs.private.recursion.Partition.{Before, HasTaken, place}
pub use Rattle.pg_finders.specs.private.recursion.Subgame.{active_of, Apart, Once, listed, IsGiven, SameAt, SameOutside, choices_of, winners_of}
pub use Rattle.pg_finders.specs.private.recursion.Order.{AllStand, AreDistinct, AreGreatest, AreVertices, IsLast, IsOrder, priority_at}
pub use Rattle.pg_finders.specs.private.recursion.Solver.{IsAtEnd, IsSolverState, how_many_gone, AreFewer, HasStepped, number_left, AreApart, AreOpenLevels, Linked, count_at, gone, level_at, part, prefix, Level, AreLevels}
pub use Rattle.pg_finders.specs.private.recursion.Settled.{SettledLists, settled_of}
pub use Rattle.pg_finders.specs.Steps.{priority_count, steps, steps_after, steps_left, work}
pub use Rattle.pg_finders.specs.private.small.Partial.{AreDifferentRows, AddsRows, ExtendsChoices, IsPartial}
pub use Rattle.pg_finders.specs.private.small.SearchSteps.{HasNoCapacity, NoneAgreesAt, StillAgreesAt}
pub use Rattle.pg_finders.specs.private.small.Walked.{IsFrom, IsReached, RowLeadsTo, Under, WalksBack}
pub use Rattle.pg_finders.specs.private.solitaire.Leading.{Follows, IsQueue}
pub use Rattle.pg_finders.specs.private.solitaire.Solitaire.{AreLeading, EdgeBelow, HasOneAt, IsForcedBelow, IsSeen, IsSingle, choices_by}
