use Rattle.std.proofs.Common.{take}
use Rattle.grain_parse.specs.Depths.{DeclareDepths}
use Rattle.grain_parse.proofs.chunks.put_depths.Given as goal

abbrev pub invariant-chosen : goal.invariant-chosen
invariant-chosen l = DeclareDepths (take l.index-index l.automatic) l.depths l.initial.stacks l.stacks
