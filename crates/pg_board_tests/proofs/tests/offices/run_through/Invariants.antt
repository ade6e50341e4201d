use Rattle.std.specs.Prelude.{[]}
use Rattle.pg_board_tests.proofs.tests.offices.run_through.Given as goal

-- the ledger of the blank that was just made
abbrev pub ghosts-run_new-L-Ledger : goal.ghosts-run_new-L-Ledger
ghosts-run_new-L-Ledger g a = record { name = a.blank.name; parts = a.blank.parts }

-- an office of the game
abbrev pub ghosts-run_new-L-Opening : goal.ghosts-run_new-L-Opening
ghosts-run_new-L-Opening g a = record { opened = record { graph = a.game.now; journal = [] } }

abbrev pub ghosts-run_opened-L-Ledger : goal.ghosts-run_opened-L-Ledger
ghosts-run_opened-L-Ledger g a = record { name = a.blank.name; parts = a.blank.parts }

-- an office of this board
abbrev pub ghosts-run_opened-L-Opening : goal.ghosts-run_opened-L-Opening
ghosts-run_opened-L-Opening g a = record { opened = a.board }
