-- A file is known by its first bytes.
use Rattle.std.proofs.Common.{◌≡◌, ◌∷◌, ℕ, List, Option, Some, None, refl, sym, ◌∙◌}
use Rattle.grain_file.specs.declared.kinds.FileKind.{FileKind}
use Rattle.grain_file.specs.declared.kinds.FileKind.TheVariants as kinds
use Rattle.grain_file.specs.Kinds.{IsOfKind}
use Rattle.grain_file.specs.ProgramFile.{Bounds, IsFile, Kept, body_format, file_format, versioned_format}
use Rattle.grain_file.specs.SidecarFile.{IsSidecarFile, SidecarParts, kind_format, sidecar_format, tables_format}

pub known_program : (bytes : List ℕ) (kind : Option FileKind) (bounds : Bounds) (k : Kept) → IsOfKind bytes kind → IsFile bounds bytes k → kind ≡ Some kinds.Program
unfolding file_format versioned_format
known_program bytes None bounds k is file = absurd (is (2 ∷ 0 ∷ (body_format bounds).spelling k, file.spelled))
known_program bytes (Some kinds.Program) bounds k is file = refl
known_program bytes (Some kinds.Sidecar) bounds k is file = absurd (let e = sym file.spelled ∙ is.1 in cc)
known_program bytes (Some kinds.Unknown) bounds k is file = absurd (is.1 ((body_format bounds).spelling k, file.spelled))

pub known_sidecar : (bytes : List ℕ) (kind : Option FileKind) (k : SidecarParts) → IsOfKind bytes kind → IsSidecarFile bytes k → kind ≡ Some kinds.Sidecar
unfolding sidecar_format kind_format
known_sidecar bytes None k is file = absurd (is (2 ∷ 1 ∷ tables_format.spelling k, file.spelled))
known_sidecar bytes (Some kinds.Program) k is file = absurd (let e = sym file.spelled ∙ is.1 in cc)
known_sidecar bytes (Some kinds.Sidecar) k is file = refl
known_sidecar bytes (Some kinds.Unknown) k is file = absurd (is.2 (tables_format.spelling k, file.spelled))
