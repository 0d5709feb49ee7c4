-- A handle may go to another thread: its words may, and so may what it keeps, which is a scratch, as that may, and the right to free a block of the heap, which any thread may do.
use mathlib.Core.Bool.{Bool, true, false}
use mir.Raw.{raw}
use base.{Fraction.full_share, Shift.Keyless}
use denote.{Memory.lone, Param.Send.IsSend, Param.Send.owning_send, Param.Send.part_keyless, Param.Send.sendable, RawPtr.Ptr, RawPtr.block_ptr, RawPtr.null_ptr}
use Rattle.std.proofs.Crossing.{frees}
use Rattle.grain_flat.specs.contracts.scratch.FlatScratch as scratch
use Rattle.grain_flat.proofs.scratch.FlatScratch.TheSendSync.{the_send as scratch_send}
use Rattle.grain_c.specs.Keeps.{keeps}
use Rattle.grain_c.specs.contracts.handle.CScratch.{the_row, the_type}

-- what is kept says the same to every thread
kept : (made : Bool) (p : Ptr) → Keyless (keeps made p)
kept false p = tt
kept true null_ptr = λ x. (tt, frees.frees x.0 (raw (lone scratch.the_row.mir)) null_ptr)
kept true (block_ptr b o) = λ x. (part_keyless scratch.the_row scratch_send full_share x.1 b o, frees.frees x.0 (raw (lone scratch.the_row.mir)) (block_ptr b o))

pub send : IsSend the_row
send = owning_send the_type (search sendable, (search sendable, tt)) (λ d. kept d.made d.block) (λ k x w. tt)
