-- By what they begin with files are known.
use Rattle.std.specs.Prelude.{◌≡◌, ◌++◌, ◌∷◌, [], ℕ, List, Option, Some, None}
use Rattle.grain_file.specs.declared.kinds.FileKind.{FileKind}
use Rattle.grain_file.specs.declared.kinds.FileKind.TheVariants as kinds

abbrev pub BeginsWith : List ℕ → List ℕ → Type 0
BeginsWith front bytes = (rest : List ℕ) × (bytes ≡ front ++ rest)

-- "grn" after a byte 0, with which each file begins
abbrev pub magic : List ℕ
magic = 0x00 ∷ 0x67 ∷ 0x72 ∷ 0x6e ∷ []

-- and behind it the version and the kind
abbrev pub program_head : List ℕ
program_head = magic ++ 2 ∷ 0 ∷ []

abbrev pub sidecar_head : List ℕ
sidecar_head = magic ++ 2 ∷ 1 ∷ []

-- the kind that the first bytes give
abbrev pub IsOfKind : List ℕ → Option FileKind → Type 0
IsOfKind bytes None = ¬ BeginsWith magic bytes
IsOfKind bytes (Some kinds.Program) = BeginsWith program_head bytes
IsOfKind bytes (Some kinds.Sidecar) = BeginsWith sidecar_head bytes
IsOfKind bytes (Some kinds.Unknown) = BeginsWith magic bytes × ¬ BeginsWith program_head bytes × ¬ BeginsWith sidecar_head bytes
