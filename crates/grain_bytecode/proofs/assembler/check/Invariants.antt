use Rattle.std.proofs.Common.{take}
use Rattle.std.specs.Prelude.{length}
use Rattle.grain_code.specs.Assembly.{EachWritable}
use Rattle.grain_bytecode.proofs.assembler.check.Given as goal

-- the operations so far can be written
abbrev pub invariant-loop-at : goal.invariant-loop-at
invariant-loop-at l = EachWritable (length l.ops) (take l.at l.ops)
