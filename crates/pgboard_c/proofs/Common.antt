-- The names that several proofs of this crate cite, passed on from one place. Declares nothing.
pub use Rattle.std.proofs.Common.{All, IfSome, List, Option, Some, [], ap, arith, below_more, get_or, inl, inr, length}
pub use Rattle.std.proofs.Common.{refl, rules, subst, suc, sym, zero, ℕ, ◌<◌, ◌∙◌, ◌∷◌, ◌≡◌, ◌≤◌}
pub use Rattle.pg_game.proofs.Common.{AreNumbers}
pub use Rattle.pg_text.proofs.Common.{SolutionRows, Spec, choice_of, digit_of}
pub use Rattle.pg_text.proofs.Exact.{choice_below, exact_rows}
pub use Rattle.pg_text.specs.Solution.{IsExactSolution}
pub use Rattle.pg_dominion.proofs.Common.{IsGame, winner_of}
pub use Rattle.pg_finders.proofs.Common.{Graph, NoneHas}
pub use Rattle.pgboard_c.specs.Arrays.{GameLists, IsBadOwner, IsBadPriority, IsBadRow, IsBadWinner}
pub use Rattle.pgboard_c.specs.Arrays.{array_spec, array_specs, choice_from, game_lists, no_choice}
pub use Rattle.pg_text.specs.Known.{known_at}
pub use Rattle.pgboard_c.specs.KnownArrays.{IsBadKnownWinner, known_from}
