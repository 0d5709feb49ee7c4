use Rattle.std.proofs.Common.{◌≡◌, ◌∷◌, ◌++◌, take, map}
use Rattle.std.specs.Prelude.{slice_index}
use Rattle.std.specs.List.{flat_map, AllByRecursion}
use Rattle.grain_code.specs.InstructionTable.{bytes_of, FieldFits}
use Rattle.grain_code.specs.Fields.{moved}
use Rattle.grain_bytecode.proofs.assembler.put_fields.Given as goal

-- the fields so far were written
abbrev pub invariant-loop-field : goal.invariant-loop-field
invariant-loop-field l = record {
  code : l.code.items ≡ l.fn.code.items ++ (l.tag ∷ flat_map bytes_of (map (moved (slice_index l.offsets)) (take l.field-index l.fields)));
  fits : AllByRecursion FieldFits (map (moved (slice_index l.offsets)) (take l.field-index l.fields));
}
