use Rattle.pg_board.proofs.Common.{◌∙◌, sym, eqb-true, eq-eqb}
use Rattle.pg_board.proofs.Numbers.{full_from_number, number_from_full}
use Rattle.pg_board.proofs.contents.Contents.is_full.Goals as goal

pub returns : goal.returns
returns c =
    let b = c.args.self.now in let g = c.args.game.now in let i = c.requires in (
      λ t. full_from_number g b.entries.items i.lawful (sym i.number_is ∙ (eqb-true b.number c.len.result t ∙ c.len.ensures.number)),
      λ full. eq-eqb b.number c.len.result (i.number_is ∙ (number_from_full g b.entries.items i.lawful full ∙ sym c.len.ensures.number)),
    )
