-- Program files in a caller's list.
use Rattle.std.specs.Prelude.{◌≡◌, ◌++◌, ℕ, List, drop, length}
use Rattle.grain.specs.Program.{Program}
use Rattle.grain_file.specs.ProgramFile.{Bounds, IsFile, IsWithin, kept}

-- The file of a program was written to a list. It is one for readers whose limits allow what is in the program.
pub record IsWrittenFile (program : Program) (old new : List ℕ) (size : ℕ) : Type 0 where
  pub bytes : List ℕ
  pub is_file : (limits : Bounds) → IsWithin limits (kept program) → IsFile limits bytes (kept program)
  pub size_is : size ≡ length bytes
  pub new_is : new ≡ bytes ++ drop size old
