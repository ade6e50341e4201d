use Rattle.pg_board.proofs.Common.{◌≡◌, List, take, get_or, length, ◌<◌, sym, subst, ap, arith, Entry, BoardRecord, settled_by}
use Rattle.pg_board.proofs.Numbers.{number_within, more_settled_by}
use Rattle.pg_board.proofs.board.Board.settled_by.Goals as goal

pub overflow_add-total : goal.overflow_add-total
overflow_add-total c =
    let b = c.self.inside in
    let j = b.contents.entries.items in
    let i = c.entries.entry-index in
    let e = c.entry-item.result in
    let so_far : c.entries.total ≡ settled_by (take i j) c.args.worker =
    subst (λ (x : BoardRecord). c.entries.total ≡ settled_by (take i x.journal) c.args.worker) (sym c.self.view_is) c.entries.invariant in
    let at : e ≡ get_or j i e = subst (λ (xs : List Entry). e ≡ get_or xs i e) c.deref-entry-items.ensures.value c.entry-item.is in
    let l : i < length j = subst (λ (xs : List Entry). i < length xs) c.deref-entry-items.ensures.value c.entries-test.true in
    let more = more_settled_by j c.args.worker i e l at in
    let all = number_within b.game.now j c.self.invariant.lawful in
    let limit = c.self.invariant.limits.vertices in
    let size = ap length c.as_slice.ensures in
    omega (arith, size)
