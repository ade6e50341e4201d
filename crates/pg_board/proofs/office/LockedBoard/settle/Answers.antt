use Rattle.pg_board.proofs.RaisedAmount.{amount_fits}
use Rattle.pg_board.proofs.office.LockedBoard.settle.Goals as goal

pub raise-requires : goal.raise-requires
raise-requires g c =
    let agreed = rw c.in_ok-posted.was at c.settle.ensures in
    amount_fits c.args.share.now c.requires.lawful c.requires.settled agreed.answer
