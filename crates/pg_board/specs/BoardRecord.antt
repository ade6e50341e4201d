-- A game and the journal of its settled vertices; a session also has slices.
use Rattle.std.specs.Prelude.{ℕ, List, [], Option, Some, None}
use Rattle.pg_game.specs.Graph.{Graph}
use Rattle.pg_board.specs.declared.journal.Entry.{Entry}
use Rattle.pg_board.specs.declared.contents.Contents.{Contents}

pub record BoardRecord : Type 0 where
  pub graph : Graph
  pub journal : List Entry

-- a board, with a bound on the slices of at least a step that remain
pub record SessionRecord : Type 0 where
  pub board : BoardRecord
  pub slices : ℕ

-- the journal of a session, which has contents
abbrev pub journal_of : Option Contents → List Entry
journal_of None = []
journal_of (Some c) = c.entries.items
