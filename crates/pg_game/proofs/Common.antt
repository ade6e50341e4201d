-- The names that several proofs of this crate cite, passed on from one place. Declares nothing.
pub use Rattle.std.proofs.Common.{Bool, List, [], add-one, ap, arith, drop, false, get_or, get_or-set_other, get_or-set_same, get_or-take, inl, inr, length}
pub use Rattle.std.proofs.Common.{length-append, length-set, map, nat_eq, refl, rules, set, slice_index, slice_index_or, subst, suc, sym, take, true, zero, ℕ}
pub use Rattle.std.proofs.Common.{◌&&◌, ◌++◌, ◌+◌, ◌-◌, ◌<◌, ◌^◌, ◌||◌, ◌∙◌, ◌∷◌, ◌≡◌, ◌≢◌, ◌≤◌, ◌⊎◌}
pub use Rattle.std.proofs.Math.Bool.{or-false}
pub use Rattle.std.proofs.Math.ListN.{drop_of_length-le}
pub use Rattle.std.proofs.Math.Seq.{take-length}
pub use Rattle.std.proofs.lemmas.Bool.{cases_Bool, cases_eq, cases_lt, eq-eqb, eqb-true, false_from_ne_true, le-ltb, lt-ltb, ltb-false, ltb-true, not-false}
pub use Rattle.std.proofs.lemmas.Bool.{or_parts}
pub use Rattle.std.proofs.lemmas.List.{drop_more, ext_get_or, get_or-map, get_or_append_left, get_or_default, get_or_past, get_or_push, get_or_read, length-map}
pub use Rattle.std.proofs.lemmas.List.{length-take-le, map_push, take_all, take_more}
pub use Rattle.std.proofs.lemmas.List.Elements.{Contains-get_or}
pub use Rattle.std.proofs.lemmas.List.Sorted.{All-permutation, Contains-permutation, IsPermutation-map, IsPermutation-refl, IsPermutation-sym}
pub use Rattle.std.proofs.lemmas.List.Sorted.{length_permutation, sum_by-IsPermutation}
pub use Rattle.std.proofs.lemmas.List.Sums.{sum_by-cons, sum_by_push}
pub use Rattle.std.proofs.lemmas.Map.Keys.{IsDistinct-IsPermutation, IsDistinct-cons, below_from_sorted, sorted_from_strictly_increasing}
pub use Rattle.std.proofs.lemmas.Option.{slice_get-get_or}
pub use Rattle.std.specs.List.{AllByRecursion, Contains, list_any}
unfoldable pub use Rattle.std.specs.List.{IsDistinct}
pub use Rattle.std.specs.List.Sorted.{IsPermutation, IsStrictlyIncreasing}
pub use Rattle.std.specs.Prelude.{All, None, Option, Some, count_by, if◌then◌else◌, nat_lt, position, slice_get, slice_range, sum, sum_by, ◌==◌, ◌↔◌}
pub use Rattle.pg_game.specs.Attractor.{Attractor}
pub use Rattle.pg_game.specs.Flat.{spec_from, specs_from}
pub use Rattle.pg_game.specs.Graph.{AreSuccessors, Graph, HasEdge, IsGame, Vertex, id_of, no_vertex, owner_of, priority_of, successors_of, vertex_at}
pub use Rattle.pg_game.specs.Kept.{Choices, KeptEdge}
pub use Rattle.pg_game.specs.Limits.{IsWithinLimits}
pub use Rattle.pg_game.specs.Player.{of_parity, opponent, same_player}
pub use Rattle.pg_game.specs.Predecessors.{ArePredecessors}
pub use Rattle.pg_game.specs.Region.{IsRegion, OnlyGoodWalks}
pub use Rattle.pg_game.specs.Rows.{rows_of}
pub use Rattle.pg_game.specs.Specification.{AreNumbers, IsGameOf, IsSpecified, IsVertexOf, different, edges, fault_or, first_fault, first_repeated}
pub use Rattle.pg_game.specs.Specification.{first_unknown, first_unspecified, first_without, max_edges, max_vertices, number_of}
pub use Rattle.pg_game.specs.VertexSet.{In, VertexSet, Within, all_vertices, union}
pub use Rattle.pg_game.specs.View.{graph_of}
pub use Rattle.pg_game.specs.Walk.{ClosedWalk, Walk, greatest_priority}
pub use Rattle.pg_game.specs.declared.specification.GameFault.{GameFault}
pub use Rattle.pg_game.specs.declared.specification.Spec.{Spec}
pub use Rattle.pg_game.specs.declared.player.Player.{Player}
pub use Rattle.pg_game.specs.declared.player.Player.TheVariants.{Even, Odd}
pub use Rattle.pg_game.specs.private.Gathered.{AreSums, HasCapacity, IsFilled, banded, is_in, once_in, sources_below}
pub use Rattle.pg_game.specs.private.Identifiers.{first_outside, ids_of, owners_of, priorities_of, rows_fault, successor_lists}
pub use Rattle.pg_game.specs.private.Lines.{AreLines, ArePaired}
pub use Rattle.pg_game.specs.private.Resolved.{AreAllPlaces, AreNamed, AreNamedFrom, AreResolvedSpecs, IsResolvedSpec}
pub use Rattle.pg_game.specs.private.Rows.{AreRisingRows, AreSources, IsCompressed, row_at, size_of}
pub use Rattle.pg_game.specs.private.Stored.{AreParts, HasPredecessors, IsStored}
