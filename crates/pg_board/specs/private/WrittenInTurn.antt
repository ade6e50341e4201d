-- A region that grows by no step, or by one step after another.
use Rattle.std.proofs.Common.{◌≡◌, sym, ◌∙◌, ap, subst}
use Rattle.pg_game.specs.declared.player.Player.{Player}
use Rattle.pg_game.specs.Graph.{Graph}
use Rattle.pg_game.specs.VertexSet.{members}
use Rattle.std.specs.Prelude.{Bool, List}
use Rattle.pg_dominion.specs.Claim.{ClaimRows}
use Rattle.pg_dominion.specs.ExtendedRows.{Extends, extends_same, extends_then}
use Rattle.pg_board.specs.declared.regions.Regions.{Regions}
use Rattle.pg_board.specs.private.Regions.{table_state}
use Rattle.pg_board.specs.private.WrittenRows.{WritesInTurn}

pub WritesInTurn-same : (g : Graph) (p : Player) (r r' : Regions) (rows : ClaimRows) → r'.table.items ≡ r.table.items → r'.unsettled ≡ r.unsettled
    → WritesInTurn g p r rows r' rows
WritesInTurn-same g p r r' rows table mask = record {
  extends = subst (λ (m : List Bool). Extends g p (members r.unsettled) rows (members m) rows) (sym mask) (extends_same g p (members r.unsettled) rows);
  tells = λ st h v. ap (λ t. table_state t v) table ∙ h v;
}

pub WritesInTurn-then : (g : Graph) (p : Player) (r r' r'' : Regions) (rows rows' rows'' : ClaimRows) → WritesInTurn g p r rows r' rows' → WritesInTurn g p r' rows' r'' rows''
    → WritesInTurn g p r rows r'' rows''
WritesInTurn-then g p r r' r'' rows rows' rows'' a b = record {
  extends = extends_then g p (members r.unsettled) (members r'.unsettled) (members r''.unsettled) rows rows' rows'' a.extends b.extends;
  tells = λ st h. b.tells st (a.tells st h);
}
