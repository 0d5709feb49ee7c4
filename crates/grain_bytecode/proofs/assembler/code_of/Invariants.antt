use Rattle.std.proofs.Common.{take, map}
use Rattle.grain_code.specs.Split.{AreInstructions}
use Rattle.grain_code.specs.Assembly.{assembled}
use Rattle.grain_bytecode.proofs.assembler.code_of.Given as goal

-- the operations so far were written
abbrev pub invariant-loop-op : goal.invariant-loop-op
invariant-loop-op l = AreInstructions l.code.items (map (assembled l.offsets) (take l.op-index l.ops))
