-- The names that several proofs of this crate cite, passed on from one place. Declares nothing.
pub use Rattle.std.proofs.Common.{Bool, Contains, Err, IfSome, IsErrOf, List, None, Option, Some, [], ap, append_assoc, arith, codes, drop}
pub use Rattle.std.proofs.Common.{false, flat_map, get_or, inl, inr, length, length-take, refl, replicate, rules, slice_get}
pub use Rattle.std.proofs.Common.{subst, suc, sum_by, sym, take, true, vec_len, zero, ℕ, ⊎_elim, ◌*◌, ◌++◌, ◌+◌, ◌-◌, ◌<◌, ◌==◌, ◌^◌, ◌∙◌, ◌∷◌, ◌≡◌, ◌≤◌, ◌⊎◌}
pub use Rattle.std.proofs.lemmas.List.{drop-take, places, take-take, take_rest, with_items_is}
pub use Rattle.std.proofs.lemmas.Result.{err_from_is_err_and}
pub use Rattle.std.specs.Io.KnownBytes.{Appends, Consumes}
pub use Rattle.std.specs.List.{position_or_len}
pub use Rattle.pg_game.proofs.Common.{drop_of_length-le}
pub use Rattle.pg_text.proofs.Common.{SolutionRows, SpellsSolution, drop_more, join_with_byte, numeral, written_winners}
pub use Rattle.pg_text.proofs.Exact.{chosen_below, edge_below, exact_rows, none_below, same_or_not}
pub use Rattle.pg_text.proofs.Numerals.{decimal_is_numeral}
pub use Rattle.pg_game.proofs.AllElements.{all_at}
pub use Rattle.pg_text.specs.Known.{IsKnownTextOf, known_at}
pub use Rattle.pg_text.specs.Reading.{IsTextOf, max_text}
pub use Rattle.pg_dominion.proofs.Common.{AllByRecursion}
pub use Rattle.pg_finders.proofs.Common.{Contains-head, length-replicate, on_ok_weaker}
pub use Rattle.pg_board.proofs.Common.{Even, IsAttractedRow, IsGame, IsRightRow, Odd, State, named}
pub use Rattle.pg_board.proofs.Common.{all_vertices, attracted_rows, claimed_rows}
pub use Rattle.pg_board.proofs.Common.{owner_of, settled, take-length, union}
pub use Rattle.pg_board.specs.declared.journal.Entry.{Entry}
pub use Rattle.pg_board.specs.declared.journal.Refusal.{Refusal}
pub use Rattle.pg_workers.proofs.Common.{AddsUp, ClaimRows, Graph, IsExactSolution, IsLawful, IsSolveFault, Journal, KnownRows, Player, VertexSet}
pub use Rattle.pg_workers.proofs.Common.{common_steps, false_from_ne_true, known_of, number_settled}
pub use Rattle.pg_workers.proofs.Common.{state_of, take-append-drop, take-append-le}
pub use Rattle.pg_workers.specs.KnownRegions.{HasCount, IsAttractedToKnown, IsKnownRegion, IsKnownSize}
pub use Rattle.pg_workers.specs.declared.report.ReportRow.{ReportRow}
pub use Rattle.pgboard.specs.Joined.{IsJudged, JudgingFailed, game_part, solution_part}
pub use Rattle.pgboard.specs.Run.{IsNoGame, IsReadGame}
pub use Rattle.pgboard.specs.Solving.{IsSolveOutput, IsSolveText}
pub use Rattle.pgboard.specs.Trace.{entries_text, entry_text, job_line, row_line, trace_line, trace_text}
pub use Rattle.pgboard.specs.declared.fault.RunFault.{RunFault}
pub use Rattle.pgboard.specs.private.Run.{IsRefusedGame, IsRefusedSolution, IsVerdictOn, NamesVertices}
