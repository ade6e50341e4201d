use Rattle.pg_text.proofs.Common.{◌≡◌, ◌≤◌, ◌<◌, ◌+◌, ◌-◌, ◌*◌, ◌++◌, ◌∷◌, drop, take, numeral, length, id_of}
use Rattle.std.proofs.Common.{flat_map}
use Rattle.pg_text.proofs.writing.list_before.Given as goal

abbrev pub invariant-vertices : goal.invariant-vertices
invariant-vertices l = record {
  some : 0 < l.left;
  within : l.left ≤ length l.vertices;
  capacity : 11 * l.left ≤ l.at;
  near : l.end ≤ l.at + 11 * (length l.vertices - l.left);
  before : l.at ≤ l.end;
  size : length l.line ≡ length l.fn.line;
  written : drop l.at l.line ≡ flat_map (λ w. 44 ∷ numeral (id_of l.game w)) (drop l.left l.vertices) ++ drop l.end l.fn.line;
  kept : take l.at l.line ≡ take l.at l.fn.line;
}

abbrev pub decreases-vertices : goal.decreases-vertices
decreases-vertices l = l.left
