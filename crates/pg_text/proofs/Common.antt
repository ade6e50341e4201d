-- The names that several proofs of this crate cite, passed on from one place. Declares nothing.
pub use Rattle.std.proofs.Common.{Bool, List, [], ap, append_assoc, arith, drop, false, get_or, inl, inr, length, length-append, lt-ltb, map, not}
pub use Rattle.std.proofs.Common.{refl, rules, set, subst, suc, sym, take, true, zero, ℕ, ◌*◌, ◌++◌, ◌+◌, ◌-◌, ◌<◌, ◌^◌, ◌∙◌, ◌∷◌, ◌≡◌, ◌≤◌, ◌⊎◌}
pub use Rattle.std.proofs.lemmas.Bool.{cases_lt, eq-eqb, eqb-true, false_from_ne_true, le-leb, leb-true, ltb-false, ltb-true}
pub use Rattle.std.proofs.lemmas.Bool.Decides.{nat_tests}
pub use Rattle.std.proofs.lemmas.List.{append-nil, drop_more, get_or-map, length-map, map-append, take-append-drop}
pub use Rattle.std.proofs.lemmas.List.Folds.{list_any_at}
pub use Rattle.std.proofs.lemmas.Option.{get_or_from_slice_get, slice_get-get_or}
pub use Rattle.std.proofs.lemmas.Slice.Eq.{bytes_eq-Decides}
pub use Rattle.std.specs.List.{AllByRecursion, Contains, join_with_byte, list_any}
pub use Rattle.std.specs.Option.{option_or}
pub use Rattle.std.specs.Prelude.{IfOk, IfSome, MatchResult, None, Option, Result, Some, codes, find, flat_map, if◌then◌else◌, nat_lt, option_map, slice_get, ⊤}
pub use Rattle.std.specs.Prelude.{◌==◌}
pub use Rattle.std.specs.Str.{bytes_eq}
pub use Rattle.pg_game.proofs.Players.{is_same}
pub use Rattle.pg_game.specs.Graph.{Graph, HasEdge, IsGame, Vertex, id_of, no_vertex, owner_of, successors_of, vertex_at}
pub use Rattle.pg_game.specs.Least.{NoneHas}
pub use Rattle.pg_game.specs.Limits.{IsWithinLimits}
pub use Rattle.pg_game.specs.Player.{digit_of, same_player}
pub use Rattle.pg_game.specs.Specification.{first_fault, first_repeated, max_number}
pub use Rattle.pg_game.specs.VertexSet.{In, members}
pub use Rattle.pg_game.specs.declared.specification.Spec.{Spec}
pub use Rattle.pg_game.specs.declared.player.Player.{Player}
pub use Rattle.pg_game.specs.declared.player.Player.TheVariants.{Even}
pub use Rattle.pg_text.specs.Bytes.{AllAre, EndsRun, begins_token, is_blank, is_digit, is_letter, is_no_quote, value_of}
pub use Rattle.pg_text.specs.Fault.{AllFit, IsLexicalFault, IsNumberFault, IsPlayerFault, IsSyntaxFault, fits}
pub use Rattle.pg_text.specs.GameText.{BeginsGameText, IsBeforeOwner, IsGameText, WrittenGameLine, game_line_tokens, game_tokens, name_tokens}
pub use Rattle.pg_text.specs.GameText.{separated, spec_of}
pub use Rattle.pg_text.specs.Known.{AreKnownLinesOf}
pub use Rattle.pg_text.specs.Reading.{IsSolutionTextOf, IsSomeGameText, IsSomeSolutionText, SpellsGame, SpellsSolution}
pub use Rattle.pg_text.specs.Solution.{AreSolutionRows, IsSolution, SolutionRows, choice_of, winner_of, won_by}
pub use Rattle.pg_text.specs.SolutionLines.{AreLinesOf, first_missing, first_stranger, first_twice, has_line, is_id, number_in, row_of_line}
pub use Rattle.pg_text.specs.SolutionText.{BeginsSolutionText, IsBeforeWinner, IsSolutionText, WrittenSolutionLine, solution_tokens}
pub use Rattle.pg_text.specs.Token.{Begins, Comma, IsSpelling, IsWhole, Name, Number, Placed, Semicolon, Spells, Token, Word, tokens_of}
pub use Rattle.pg_text.specs.Verdict.{HasBadChoice, IsOnBadWalk, LacksChoice, Leaves}
pub use Rattle.pg_text.specs.Written.{greatest_id, written_choice, written_game, written_rows, written_solution, written_vertex, written_winners}
unfoldable pub use Rattle.pg_text.specs.Written.{numeral}
pub use Rattle.pg_text.specs.declared.fault.SolutionTextFault.{SolutionTextFault}
pub use Rattle.pg_text.specs.declared.fault.SolutionTextFault.TheVariants.{Stranger}
pub use Rattle.pg_text.specs.declared.lexer.TokenKind.{TokenKind}
pub use Rattle.pg_text.specs.declared.solution_text.Solution.{Solution}
pub use Rattle.pg_text.specs.declared.solution_text.SolutionLine.{SolutionLine}
pub use Rattle.pg_text.specs.private.FirstFault.{FirstLarge, first_at, placed}
pub use Rattle.pg_text.specs.private.Lexeme.{IsNoToken, IsLexemeOf, IsRun, IsToken, kind_of, value_in}
pub use Rattle.pg_text.specs.private.Reach.{IsBadFrom, ReadsTo, SpellsRest}
pub use Rattle.pg_text.specs.private.SolutionReads.{line_of}
pub use Rattle.pg_text.specs.private.SolutionTable.{HoldsLines, HoldsTable, IsLookUpFaultOf, IsNamed}
