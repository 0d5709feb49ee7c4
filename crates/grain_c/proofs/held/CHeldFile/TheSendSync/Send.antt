-- A handle may go to another thread: its words may, and so may what it keeps, which is a flat file, as that may, and the right to free a block of the heap, which any thread may do.
use mathlib.Core.Bool.{Bool, true, false}
use mir.Raw.{raw}
use base.{Fraction.full_share, Shift.Keyless}
use denote.{Memory.lone, Param.Send.IsSend, Param.Send.owning_send, Param.Send.part_keyless, Param.Send.sendable, RawPtr.Ptr, RawPtr.block_ptr, RawPtr.null_ptr}
use Rattle.std.proofs.Crossing.{frees}
use Rattle.grain_flat_file.specs.contracts.contents.FlatFile as flat
use Rattle.grain_flat_file.proofs.contents.FlatFile.TheSendSync.{the_send as flat_send}
use Rattle.grain_c.specs.Holds.{heap, holds}
use Rattle.grain_c.specs.contracts.held.CHeldFile.{the_row, the_type}

-- what is kept says the same to every thread
kept : (made : Bool) (p : Ptr) (x : flat.the_row.Denot) → Keyless (holds made p x)
kept false p x = tt
kept true null_ptr x = (tt, frees.frees heap (raw (lone flat.the_row.mir)) null_ptr)
kept true (block_ptr b o) x = (part_keyless flat.the_row flat_send full_share x b o, frees.frees heap (raw (lone flat.the_row.mir)) (block_ptr b o))

pub send : IsSend the_row
send = owning_send the_type (search sendable, (search sendable, tt)) (λ d. kept d.made d.block d.content) (λ k x w. tt)
