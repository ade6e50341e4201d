use Rattle.pg_board.proofs.Common.{vec_len}
use Rattle.std.specs.Prelude.{◌≡◌, ◌+◌, ◌∷◌, replicate}
use Rattle.std.specs.Vec.{vec_capacity}
use Rattle.pg_board.proofs.office.Office.open_with.Given as goal

abbrev pub invariant-loop-i : goal.invariant-loop-i
invariant-loop-i g l =
    (l.remaining.parts + l._i + 1 ≡ l.seats)
    × (l.remaining.amount ≡ 0)
    × (l.shares.items ≡ l.amount ∷ replicate l._i 0)
    × (vec_len l.shares ≡ l._i + 1)
    × (vec_capacity l.shares ≡ l.seats)
    × (l.book.total ≡ l.amount)
