use Rattle.std.proofs.Common.{◌≡◌, ◌+◌, ◌<◌, ◌^◌, drop}
use Rattle.std.specs.Prelude.{sum_by}
use Rattle.grain_code.specs.InstructionTable.{width_of}
use Rattle.grain_bytecode.proofs.assembler.check_length.Given as goal

-- the bytes so far and those of what is left are those of all
abbrev pub invariant-loop-op : goal.invariant-loop-op
invariant-loop-op l = record {
  small : l.bytes < 2 ^ 32;
  end : l.bytes + sum_by width_of (drop l.op-index l.ops) ≡ sum_by width_of l.ops;
}
