use Rattle.pg_board.proofs.Common.{sym, subst, refl, List, Entry, IsBoard}
use Rattle.pg_board.proofs.OpeningState.{lawful_none}
use Rattle.pg_board.proofs.board.Board.open.Goals as goal

pub invariant_of-result : goal.invariant_of-result
invariant_of-result c =
    subst (λ (j : List Entry). IsBoard c.args.game.now j c.in_ok-open.field-0 0) (sym c.new.ensures.items) (record {
      game = c.len-n.ensures.game;
      limits = c.len-n.ensures.limits;
      lawful = lawful_none c.args.game.now c.len-n.ensures.game;
      regions = c.in_ok-open.ensures.regions c.args.game.now (sym c.len-n.ensures.number);
      state = c.in_ok-open.ensures.nothing;
      number_is = refl;
    })
