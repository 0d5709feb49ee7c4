-- What of a sidecar is kept in a file: all of it. And how that is encoded.
use Rattle.std.specs.Prelude.{◌≡◌, ℕ, ◌≤◌, List, length}
use Rattle.grain.specs.declared.sidecar.Sidecar.{Sidecar}
use Rattle.grain_file.specs.declared.file.Limits.{Limits}
use Rattle.grain_format.specs.declared.error.FieldFault.TheVariants.{Magic, Version, Kind}
use Rattle.grain_format.specs.Formats.{Format, any_number, blob, both, headed}
use Rattle.grain_file.specs.ProgramFile.{halves}

-- the number of the program, the address table and the stream
abbrev pub SidecarParts : Type 0
SidecarParts = (ℕ × ℕ) × (List ℕ × List ℕ)

abbrev pub sidecar_parts : Sidecar → SidecarParts
sidecar_parts s = (halves s.debug_id, (s.positions.items, s.chains.items))

unfoldable pub tables_format : Format SidecarParts
tables_format = both (both any_number any_number) (both blob blob)

-- the version 2, the kind 1, and the tables
unfoldable pub kind_format : Format SidecarParts
kind_format = headed 2 Version (headed 1 Kind tables_format)

-- "grn" after a byte 0, and that
unfoldable pub sidecar_format : Format SidecarParts
sidecar_format = headed 0x00 Magic (headed 0x67 Magic (headed 0x72 Magic (headed 0x6e Magic kind_format)))

-- the bytes are a file of the sidecar
pub record IsSidecarFile (bytes : List ℕ) (k : SidecarParts) : Type 0 where
  pub spelled : bytes ≡ sidecar_format.spelling k
  pub fits : sidecar_format.Fits k

-- and no more than the limit
pub record IsSidecarFileWithin (limits : Limits) (bytes : List ℕ) (k : SidecarParts) : Type 0 where
  pub short : length bytes ≤ limits.size
  pub file : IsSidecarFile bytes k
