use Rattle.pgboard.proofs.Common.{◌≡◌, ◌≤◌, ◌-◌, take, vec_len, Consumes, max_text}
use Rattle.pgboard.proofs.device.read_into.Given as goal

-- the filled bytes are what was read so far, and no read failed
abbrev pub invariant-reads : goal.invariant-reads
invariant-reads g l = record {
  read : Consumes (g.S.Source.left l.initial.source) (g.S.Source.left l.source) (take l.filled l.text.items);
  within : l.filled ≤ vec_len l.text;
  limit : l.filled ≤ max_text;
  failures : g.S.Source.read_failures l.source ≡ g.S.Source.read_failures l.initial.source;
}

abbrev pub decreases-reads : goal.decreases-reads
decreases-reads g l = max_text - l.filled
