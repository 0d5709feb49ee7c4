-- When a file is read into its flat form, and what a refusal says.
use Rattle.std.specs.Prelude.{ℕ, List}
use Rattle.grain.specs.Program.{Program}
use Rattle.grain_file.specs.Causes.{IsReadCause}
use Rattle.grain_file.specs.Loading.{IsFileOf}
use Rattle.grain_file.specs.declared.file.Limits.{Limits}
use Rattle.grain_flat_file.specs.declared.loading.FileStop.{FileStop}
use Rattle.grain_flat_file.specs.declared.loading.FileStop.TheVariants as stops

-- the bytes are no file, or one of a program with a list too long for rows
abbrev pub IsFlatReadCause : Limits → List ℕ → FileStop → Type 0
IsFlatReadCause limits bytes (stops.Read error) = IsReadCause limits bytes error
IsFlatReadCause limits bytes stops.TooLong = (p : Program) × IsFileOf limits bytes p
