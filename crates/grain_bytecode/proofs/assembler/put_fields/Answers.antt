use Rattle.std.proofs.Common.{◌-◌, length}
use Rattle.grain_bytecode.proofs.Flaws.{field_at}
use Rattle.grain_bytecode.proofs.assembler.put_fields.Goals as goal

pub put_field-requires-clause-writable : goal.put_field-requires-clause-writable
put_field-requires-clause-writable c = field_at (length c.args.offsets.now - 1) c.args.fields.now c.loop-field.field-index _ c.loop-field-test.true c.requires.writable
