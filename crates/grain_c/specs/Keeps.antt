-- What a handle of C keeps.
use mathlib.Core.Bool.{Bool, true, false}
use base.Fml.{Fml, ftrue, fex}
use denote.RawPtr.{Ptr}
use Rattle.std.specs.Box.Ownership.{box_owns}
use Rattle.std.specs.Global.{Global}
use Rattle.std.specs.contracts.impls.GlobalAllocator.TheImpl.{ghosts}
use Rattle.grain_flat.specs.contracts.scratch.FlatScratch.{the_row}

-- if something is kept, a scratch in a block of the heap and the right to free that block; else nothing
abbrev pub keeps : Bool → Ptr → Fml
keeps true p = fex (Global × the_row.Denot) (λ x. box_owns (ghosts.dealloc_token x.0) the_row p x.1)
keeps false p = ftrue
