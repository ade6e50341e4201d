use Rattle.std.specs.Prelude.{[]}
use Rattle.pg_workers_tests.proofs.tests.threads.compare_once.Given as goal

-- the ledger of the blank that was just made
abbrev pub ghosts-compare_sum-L-Ledger : goal.ghosts-compare_sum-L-Ledger
ghosts-compare_sum-L-Ledger g a = record { name = a.blank.name; parts = a.blank.parts }

-- an office of the game
abbrev pub ghosts-compare_sum-L-Opening : goal.ghosts-compare_sum-L-Opening
ghosts-compare_sum-L-Opening g a = record { opened = record { graph = a.game.now; journal = [] } }
