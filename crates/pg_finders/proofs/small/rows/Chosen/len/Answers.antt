use Rattle.pg_finders.proofs.small.FewRows.{view_length}
use Rattle.pg_finders.proofs.small.rows.Chosen.len.Goals as goal

pub returns-clause-number : goal.returns-clause-number
returns-clause-number c = view_length c.self.inside.rows c.args.self.now c.self.inside.len c.self.invariant.0 c.self.view_is
