-- What is printed of an operation, or of a target of a switch, that can't be written.
use Rattle.std.specs.Prelude.{ℕ, List, ◌++◌, codes, decimal}
use Rattle.grain_bytecode.specs.declared.assemble_error.AssembleError.{AssembleError}
use Rattle.grain_bytecode.specs.declared.assemble_error.AssembleError.TheVariants as errors

-- what is printed of an error
abbrev pub assemble_error_text : AssembleError → List ℕ
assemble_error_text (errors.PoolTooLarge what entries) =
    codes "index " ++ (decimal entries ++ (codes " into the " ++ (what.now ++ codes " is above 65535")))
assemble_error_text (errors.JumpOutOfRange at target) =
    codes "operation " ++ (decimal at ++ (codes " jumps to index " ++ (decimal target ++ codes ", where no operation is")))
assemble_error_text (errors.SwitchTargetOutOfRange table target) =
    codes "switch " ++ (decimal table ++ (codes " leads to index " ++ (decimal target ++ codes ", where no offset is")))
assemble_error_text (errors.ChunkTooLarge bytes) = codes "code is longer than 4294967295 bytes"
assemble_error_text errors.OutOfMemory = codes "out of memory"
