-- The box of a session, as the proofs of boxes take it, its parts as a row, and the value that a full handle has.
use Rattle.std.specs.Prelude.{◌≡◌, Option, None, Some, IsSome}
use mathlib.Core.Path.{refl}
use native.Mathlib.Omega.{arith}
use mathlib.Core.List.{[]}
use mir.Syntax.{impl, tnil, dnil}
use Rattle.std.specs.contracts.alloc.Global as heap
use Rattle.std.proofs.alloc.Global.TheLaws as heap_laws
use Rattle.std.specs.contracts.impls.GlobalAllocator.TheImpl.{ghosts, dict}
use denote.RattleType.{RattleType}
use Rattle.std_alloc.proofs.BoxSteps.Form.{Bx}
use Rattle.pgboard_c.specs.contracts.held.Parts as parts
use Rattle.pg_board.specs.contracts.session.Session as session
use Rattle.pg_board.proofs.session.Session.TheLaws as session_laws

abbrev pub E : Bx
E = record { row = session.the_row; laws = session_laws.the_row_laws; al = record { row = heap.the_row; laws = heap_laws.the_row_laws; g = ghosts; d = dict; drops = impl [] tnil dnil } }

abbrev pub Parts : RattleType
Parts = parts.the_row session.the_row heap.the_row ghosts

pub value_of : {X : Type 0} (o : Option X) → IsSome o → (x : X) × (o ≡ Some x)
value_of None p = grind arith
value_of (Some x) p = (x, refl)
