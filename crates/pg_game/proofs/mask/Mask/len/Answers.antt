use Rattle.pg_game.proofs.Common.{length, sym, ap, ◌∙◌}
use Rattle.pg_game.proofs.mask.Bits.{length-bits_of}
use Rattle.pg_game.proofs.mask.Mask.len.Goals as goal

pub returns : goal.returns
returns c = sym (length-bits_of c.self.inside.words.items c.self.inside.len) ∙ ap length c.self.view_is
