use Rattle.pg_finders.proofs.small.FewRows.{view_row}
use Rattle.pg_finders.proofs.small.rows.Chosen.row.Goals as goal

pub returns : goal.returns
returns c = view_row c.self.inside.rows c.args.self.now c.self.inside.len c.self.invariant.0 c.self.view_is c.args.at c.requires
