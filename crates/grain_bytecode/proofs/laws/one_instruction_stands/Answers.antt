use Rattle.std.proofs.Common.{take, drop, sym, ◌∙◌}
use Rattle.std.proofs.lemmas.List.{take-append-drop}
use Rattle.grain_code.specs.InstructionTable.{width_of}
use Rattle.grain_code.proofs.FieldBytes.{one_instruction}
use Rattle.grain_bytecode.proofs.laws.one_instruction_stands.Goals as goal

pub returns : goal.returns
returns c code at op op' h k =
    let bytes = drop at code in
    (one_instruction (take (width_of op) bytes) (take (width_of op') bytes) (drop (width_of op) bytes) (drop (width_of op') bytes) op op' h k
    (take-append-drop (width_of op) bytes ∙ sym (take-append-drop (width_of op') bytes))).1
