use Rattle.pg_game.proofs.SpecificationLists.{priorities_is, owners_is, lists_is}
use Rattle.pg_game.proofs.builder.GameBuilder.into_game.Goals as goal

pub of_parts-requires : goal.of_parts-requires
of_parts-requires c =
    rw (priorities_is c.self.invariant c.self.view_is, owners_is c.self.invariant c.self.view_is, lists_is c.self.invariant c.self.view_is) at c.requires

pub returns : goal.returns
returns c =
    rw (priorities_is c.self.invariant c.self.view_is, owners_is c.self.invariant c.self.view_is, lists_is c.self.invariant c.self.view_is) c.of_parts.ensures
