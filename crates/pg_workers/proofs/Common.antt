-- The names that several proofs of this crate cite, passed on from one place. Declares nothing.
pub use lib.ListN.{get_elem?}
pub use mathlib.Core.Option.{none, some, some-injective, some-ne-none}
pub use Rattle.std.proofs.Common.{All, Bool, Global, IfOk, List, MatchBool, Result, Some, Vec, [], ap, append-nil, append_assoc, arith, cond}
pub use Rattle.std.proofs.Common.{count_by, drop, false, flat_map, get_or, if◌then◌else◌, inl, inr, length, length-append, length-set, map, min, refl}
pub use Rattle.std.proofs.Common.{nat_lt, remove, replicate, rules, set, slice_get, slice_index, subst, suc, sum, sum_by, sym, take, true, vec_capacity, zero}
pub use Rattle.std.proofs.Common.{vec_len, ℕ, ⊎_elim, ◌%◌, ◌++◌, ◌+◌, ◌-◌, ◌<◌, ◌==◌, ◌^◌, ◌∙◌, ◌∷◌, ◌≡◌, ◌≢◌, ◌≤◌, ◌⊎◌}
pub use Rattle.std.proofs.Math.Nat.{mod-eq_of_lt}
pub use Rattle.std.proofs.Math.Seq.{drop-append_seam, take-append_seam}
pub use Rattle.std.proofs.lemmas.List.Sums.{sum-map, sum_by-append, sum_by-set, sum_by_more, sum_by_more_le}
pub use Rattle.std.proofs.lemmas.Option.{none-some, same_Some}
pub use Rattle.std.specs.Vec.Iter.{into_iter_items, into_iter_len}
pub use Rattle.atomic_table.specs.Table.{Allows, Joins, Splits, Step, opening, step}
pub use Rattle.pg_game.proofs.Common.{sum_by-cons}
pub use Rattle.std.proofs.lemmas.Bool.Decides.{nat_tests}
pub use Rattle.std.proofs.lemmas.Option.{get_or_from_slice_get, slice_get-get_or}
pub use Rattle.pg_text.specs.Known.{KnownRows, known_choice, known_of}
pub use Rattle.pg_finders.proofs.Common.{common_steps, get_or_default, nil_from_length, own_choices, rows_below}
pub use Rattle.pg_board.proofs.Common.{AreStateRows, ClaimRows, Graph, IsExactSolution, IsFull, IsLawful, Journal, BoardRecord}
pub use Rattle.pg_board.proofs.Common.{Player, VertexSet, false_from_ne_true, map-append, number_settled, slice_get_within}
pub use Rattle.pg_board.proofs.Common.{state_of, sum_by_push, take-append-drop, take-append-le, take_more}
pub use Rattle.pg_board.specs.Finish.{AreOfCaller, IsLater}
pub use Rattle.pg_board.specs.declared.journal.Refusal.{Refusal}
pub use Rattle.pg_workers.specs.Counting.{once_below, times}
pub use Rattle.pg_workers.specs.KnownRegions.{IsSolveFault, known_rows}
pub use Rattle.pg_workers.specs.Outcomes.{IsOutcome}
pub use Rattle.pg_workers.specs.Report.{AddsUp, AreNumbered, IsDrawnRow, IsInOrder, IsReport, blank_row, settled_in}
pub use Rattle.pg_workers.specs.Tickets.{AreDrawn, HeldTicket, fresh}
pub use Rattle.pg_board.specs.Work.{total_of}
pub use Rattle.pg_workers.specs.declared.known.SolveFault.{SolveFault}
pub use Rattle.pg_workers.specs.declared.report.ReportRow.{ReportRow}
pub use Rattle.pg_workers.specs.private.Drawing.{AtSeat, Draws, IsDrawer, IsDrawn, both_drawers, drawer, one_less, one_ticket, spent_drawer}
pub use Rattle.pg_workers.specs.private.KnownPosts.{HasSettled, IsKnownFault}
pub use Rattle.pg_workers.specs.private.Report.{AreBlank, AreCounted, AreNotedRows, AreOfPrefix, HasFreePlaces, how_many_of_job, jobs_in, noted}
pub use Rattle.pg_workers.specs.private.Report.{rows_in}
