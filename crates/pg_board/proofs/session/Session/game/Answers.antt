use Rattle.pg_board.proofs.Common.{subst, ◌≤◌, Graph, Option, None, Some}
use Rattle.pg_board.specs.Board.{IsLawfulBoard}
use Rattle.pg_board.specs.BoardRecord.{SessionRecord, journal_of}
use Rattle.pg_board.specs.declared.contents.Contents.{Contents}
use Rattle.pg_board.specs.private.Contents.{AreContentsOf}
use Rattle.pg_board.proofs.Numbers.{lawful_board}
use Rattle.pg_board.specs.Slices.{most_slices}
use Rattle.pg_board.proofs.Slices.{slices_within}
use Rattle.pg_board.proofs.session.Session.game.Goals as goal

-- a game and the contents of a board of it
lawful_contents : (g : Graph) (contents : Option Contents) → AreContentsOf g contents → IsLawfulBoard (record { graph = g; journal = journal_of contents })
lawful_contents g None board = absurd board
lawful_contents g (Some c) board = lawful_board g c.entries.items c.regions c.number board

pub returns-clause-board : goal.returns-clause-board
returns-clause-board c = subst (λ (x : SessionRecord). IsLawfulBoard x.board) c.self.view_is (lawful_contents _ _ c.self.invariant.0)

pub returns-clause-slices : goal.returns-clause-slices
returns-clause-slices c =
    subst (λ (x : SessionRecord). x.slices ≤ most_slices x.board.graph) c.self.view_is (slices_within _ _ _ c.self.invariant.1)
