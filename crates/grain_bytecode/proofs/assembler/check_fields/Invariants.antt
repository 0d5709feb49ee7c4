use Rattle.std.proofs.Common.{take}
use Rattle.grain_code.specs.Assembly.{AreWritable}
use Rattle.grain_bytecode.proofs.assembler.check_fields.Given as goal

-- the fields so far can be written
abbrev pub invariant-loop-field : goal.invariant-loop-field
invariant-loop-field l = AreWritable l.count (take l.field-index l.fields)
