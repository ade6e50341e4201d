-- The names that several proofs of this crate cite, passed on from one place. Declares nothing.
pub use mathlib.Core.Path.{fun_ext}
pub use Rattle.std.proofs.Common.{Bool, Err, List, None, Option, Result, Some, [], ap, append_assoc, arith, drop, false, get_or, if◌then◌else◌, inl}
pub use Rattle.std.proofs.Common.{inr, length, length-append, length-set, lt-ltb, ltb-true, nat_eq, nat_lt, not, refl, rules, set, slice_get, subst, suc, sym}
pub use Rattle.std.proofs.Common.{take, true, zero, ℕ, ◌&&◌, ◌++◌, ◌+◌, ◌-◌, ◌<◌, ◌==◌, ◌||◌, ◌↔◌, ◌∙◌, ◌∷◌, ◌≡◌, ◌≤◌, ◌⊎◌}
pub use Rattle.std.proofs.Math.Bool.{and-false, and-true, or-false, or_assoc}
pub use Rattle.std.proofs.Math.Seq.{take-length}
pub use Rattle.std.proofs.lemmas.Bool.{and_parts, cases_Bool, cases_lt, eq-eqb, eqb-true, false_from_ne_true, or_cases, or_left, or_right}
pub use Rattle.std.proofs.lemmas.List.{append-nil, length-map, map-append, take-append-drop, take-append-le, take_all, take_more}
pub use Rattle.std.proofs.lemmas.List.Elements.{All-from_get_or, All-from_recursion, All-weaker, recursion_from_All}
pub use Rattle.std.proofs.lemmas.List.Sums.{sum_by_push}
pub use Rattle.std.proofs.lemmas.Map.Keys.{IsDistinct-push, below_from_sorted, sorted_from_strictly_increasing}
pub use Rattle.std.proofs.lemmas.Map.Steps.{length-le_from_distinct_below}
pub use Rattle.std.proofs.lemmas.Option.{slice_get_within}
pub use Rattle.std.specs.Arc.{arc_value}
pub use Rattle.std.specs.Cmp.{nat_eq_equiv}
pub use Rattle.std.specs.List.{All, Contains, list_any}
unfoldable pub use Rattle.std.specs.List.{IsDistinct}
pub use Rattle.std.specs.List.Sorted.{IsStrictlyIncreasing}
pub use Rattle.std.specs.Prelude.{vec_len}
pub use Rattle.pg_game.proofs.Attract.{Attractor-idempotent, target_attracted}
pub use Rattle.pg_game.proofs.Disjoint.{kept_other, kept_own, wins_disjoint}
pub use Rattle.pg_game.proofs.Edges.{edge_inside, some_edge}
pub use Rattle.pg_game.proofs.GrownRegions.{grown_region}
pub use Rattle.pg_game.proofs.Masks.{member_below}
pub use Rattle.pg_game.proofs.Players.{is_same, not_own, not_same, own_or_other, same_is}
pub use Rattle.pg_game.proofs.Walks.{ClosedWalk-weaker}
pub use Rattle.pg_game.specs.Attractor.{Attractor}
pub use Rattle.pg_game.specs.Graph.{Graph, HasEdge, IsGame, owner_of}
pub use Rattle.pg_game.specs.Kept.{Choices, KeptEdge, kept}
pub use Rattle.pg_game.specs.Least.{NoneHas}
pub use Rattle.pg_game.specs.Player.{opponent, same_player}
pub use Rattle.pg_game.specs.Region.{IsRegion, Wins}
pub use Rattle.pg_game.specs.Subgame.{IsSubgame}
pub use Rattle.pg_game.specs.VertexSet.{In, VertexSet, Within, all_vertices, members, no_vertices, union, without}
pub use Rattle.pg_game.specs.declared.player.Player.{Player}
pub use Rattle.pg_game.specs.declared.player.Player.TheVariants.{Even, Odd}
pub use Rattle.pg_text.specs.Known.{choice_in_row, is_winner}
pub use Rattle.pg_text.specs.Solution.{IsExactSolution}
pub use Rattle.pg_dominion.proofs.AttractionSteps.{read_set}
pub use Rattle.pg_dominion.proofs.Named.{choice-back, choice-front, named-append, place_of}
pub use Rattle.pg_dominion.proofs.Rows.{named-push, named_right}
pub use Rattle.pg_dominion.specs.Attraction.{IsAttractedRow, IsAttraction}
pub use Rattle.pg_dominion.specs.Checked.{claim_rows}
pub use Rattle.pg_dominion.specs.Claim.{AreRight, ClaimRows, IsGoodIn, IsRightRow, IsSound, choice_in, named, row_at, vertices}
pub use Rattle.pg_dominion.specs.Fault.{IsClaimFault}
pub use Rattle.pg_dominion.specs.declared.claim.Claim.{Claim}
pub use Rattle.pg_finders.proofs.SolvedSubgames.{choice_leads, kept_same}
pub use Rattle.pg_board.specs.Full.{AreStateRows, IsFull}
pub use Rattle.pg_board.specs.Journal.{Answers, IsDominionAfter, IsLawful, Journal, attracted_rows, claimed_rows, number_settled, settled_by, state_of}
pub use Rattle.pg_board.specs.Order.{Posts}
pub use Rattle.pg_board.specs.BoardRecord.{BoardRecord}
pub use Rattle.pg_board.specs.Post.{Adds, AnswersDominion, SettlesUnlessMemory}
pub use Rattle.pg_board.specs.Refusal.{IsLost, Refuses, refusal_of}
pub use Rattle.pg_board.specs.State.{IsDominion, IsGoodOn, IsLawfulState, State, choices, is_unsettled, rest_of, settled, unsettled}
pub use Rattle.pg_board.specs.declared.journal.Entry.{Entry}
pub use Rattle.pg_board.specs.declared.journal.Posted.{Posted}
pub use Rattle.pg_board.specs.declared.journal.Refusal.{Refusal}
pub use Rattle.pg_board.specs.declared.regions.Regions.{Regions}
pub use Rattle.pg_board.specs.declared.regions.VertexState.{VertexState}
pub use Rattle.pg_board.specs.private.WrittenRows.{HasWritten, open_before}
pub use Rattle.pg_board.specs.private.OpenEdges.{EndsOutside}
pub use Rattle.pg_board.specs.private.Regions.{AreRegions, IsBoard, state_with, table_state}
