-- What may come next in a game text and in a solution text.
use Rattle.std.specs.Prelude.{Some, None}
use Rattle.pg_text.specs.declared.lexer.TokenKind.TheVariants as on
use Rattle.pg_text.specs.declared.reader.State.TheVariants.{Start, HeadWord, HeadNumber, Headed, StartWord, StartNumber, Started, Ready, Id, Priority}
use Rattle.pg_text.specs.declared.reader.State.TheVariants.{Player, Listing, Vertex, Named}
use Rattle.pg_text.specs.private.Machine.{Table}

abbrev pub game_table : Table
game_table Start on.Parity = Some HeadWord
game_table HeadWord (on.Number n) = Some HeadNumber
game_table HeadNumber on.Semicolon = Some Headed
game_table Start on.Start = Some StartWord
game_table Headed on.Start = Some StartWord
game_table StartWord (on.Number n) = Some StartNumber
game_table StartNumber on.Semicolon = Some Started
game_table Start (on.Number n) = Some Id
game_table Headed (on.Number n) = Some Id
game_table Started (on.Number n) = Some Id
game_table Ready (on.Number n) = Some Id
game_table Id (on.Number n) = Some Priority
game_table Priority (on.Number n) = Some Player
game_table Player (on.Number n) = Some Vertex
game_table Listing (on.Number n) = Some Vertex
game_table Vertex on.Comma = Some Listing
game_table Vertex on.Name = Some Named
game_table Vertex on.Semicolon = Some Ready
game_table Named on.Semicolon = Some Ready
game_table s k = None

abbrev pub solution_table : Table
solution_table Start on.Paritysol = Some HeadWord
solution_table HeadWord (on.Number n) = Some HeadNumber
solution_table HeadNumber on.Semicolon = Some Headed
solution_table Start (on.Number n) = Some Id
solution_table Headed (on.Number n) = Some Id
solution_table Ready (on.Number n) = Some Id
solution_table Id (on.Number n) = Some Player
solution_table Player (on.Number n) = Some Vertex
solution_table Player on.Semicolon = Some Ready
solution_table Vertex on.Semicolon = Some Ready
solution_table s k = None
