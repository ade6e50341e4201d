-- What a handle owns may go to another thread, as its session and what frees its block may.
use Rattle.std.specs.Prelude.{Option, None, Some}
use base.Shift.{Keyless}
use mir.Raw.{raw}
use denote.Memory.{lone}
use denote.RawPtr.{Ptr}
use denote.Struct.Struct.{exits_of}
use denote.Struct.Owning.{shape, fields, to}
use denote.Param.Send.{IsSend, AllSend, owning_send, struct_send, sendable}
use Rattle.std.proofs.Crossing as heap
use Rattle.std.proofs.alloc.Global.TheSendSync as allocator
use Rattle.std.specs.declared.alloc.Global.{Global}
use Rattle.std_alloc.proofs.SendSync.{quiet, lies}
use Rattle.pg_board.specs.contracts.session.Session as session
use Rattle.pg_board.proofs.session.Session.TheSendSync.{the_send}
use Rattle.pgboard_c.specs.private.Held.{held}
use Rattle.pgboard_c.specs.contracts.held.Held.{the_row, the_type}

held_goes : (a : Global) (p : Ptr) (o : Option session.the_row.Denot) → Keyless (held a p o)
held_goes a p None = tt
held_goes a p (Some x) = (lies session.the_row the_send p x, heap.frees.frees a (raw (lone session.the_row.mir)) p)

pub send : IsSend the_row
send =
    let all : AllSend (fields the_type) = (search sendable, (allocator.the_field_send, tt)) in
    owning_send the_type all (λ d. held_goes d.alloc d.at d.value)
    (λ k. quiet (to the_type) (exits_of k (fields the_type)) ((struct_send (shape the_type) all).leaving k))
