use Rattle.pg_text.proofs.Common.{length, ◌-◌, ◌≤◌, List, Placed, ReadsTo}
use Rattle.pg_text.specs.private.Parsing.{KeepsReader}
use Rattle.pg_text.proofs.reader.read_lines.Given as goal

abbrev pub invariant-tokens : goal.invariant-tokens
invariant-tokens g l =
    (l.at ≤ length l.text) × (ts : List Placed) × ReadsTo l.text 0 ts l.at × KeepsReader g.G.Grammar.Reads g.G.Grammar.IsBeforePlayer ts l.reader

abbrev pub decreases-tokens : goal.decreases-tokens
decreases-tokens g l = length l.text - l.at
