-- Bytes are a sidecar's exactly where they are read.
use Rattle.std.proofs.Common.{◌≡◌, ℕ, List, ◌≤◌, length, Result, Ok, Err}
use Rattle.std.specs.Prelude.{MatchResult, IfOk}
use Rattle.grain.specs.declared.sidecar.Sidecar.{Sidecar}
use Rattle.grain_file.specs.declared.file.Limits.{Limits}
use Rattle.grain_file.specs.declared.file.ReadError.{ReadError}
use Rattle.grain_file.specs.declared.file.ReadError.TheVariants as errors
use Rattle.grain_format.specs.Reading.{AreBytes}
use Rattle.grain_file.specs.SidecarFile.{IsSidecarFile, IsSidecarFileWithin, SidecarParts, sidecar_format, sidecar_parts}
use Rattle.grain_file.proofs.AllBytes.{Given, all_found, one_spelling, one_value, result_only}

module _ (limits : Limits) (bytes : List ℕ) where
  pub sidecar_found : (r : Result Sidecar ReadError) → length bytes ≤ limits.size → AreBytes bytes → Given sidecar_format sidecar_parts limits bytes r
      → IfOk r (λ s. IsSidecarFileWithin limits bytes (sidecar_parts s))
  sidecar_found (Ok s) short are given =
      let p = all_found sidecar_format bytes (sidecar_parts s) _ are given in
      record { short = short; file = record { spelled = p.0; fits = p.1 } }
  sidecar_found (Err e) short are given = tt

  pub sidecar_only : (r : Result Sidecar ReadError) → Given sidecar_format sidecar_parts limits bytes r → (k : SidecarParts) → IsSidecarFileWithin limits bytes k
      → MatchResult r (λ s. sidecar_parts s ≡ k) (λ e. e ≡ errors.OutOfMemory)
  sidecar_only r given k within = result_only sidecar_format sidecar_parts limits bytes r given k (within.file.spelled, within.file.fits)

pub one_sidecar_file : (a b : List ℕ) (k : SidecarParts) → IsSidecarFile a k → IsSidecarFile b k → a ≡ b
one_sidecar_file a b k p q = one_spelling sidecar_format a b k (p.spelled, p.fits) (q.spelled, q.fits)

pub one_sidecar : (a : List ℕ) (k l : SidecarParts) → IsSidecarFile a k → IsSidecarFile a l → k ≡ l
one_sidecar a k l p q = one_value sidecar_format a k l (p.spelled, p.fits) (q.spelled, q.fits)
