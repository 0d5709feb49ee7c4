-- The file of a program that is tightened or stripped is what is said of it.
use Rattle.std.proofs.Common.{◌≡◌, ℕ, ◌≤◌, List, length, sym, subst}
use Rattle.grain.specs.Program.{Program, chunks_of, input_of, places_of}
use Rattle.grain.specs.Sidecars.{IsSidecar, IsStripped}
use Rattle.grain.specs.Tightened.{IsTightened}
use Rattle.grain.specs.declared.sidecar.Sidecar.{Sidecar}
use Rattle.grain_file.specs.Loading.{IsFileOf}
use Rattle.grain_file.specs.ProgramFile.{bounds_of}
use Rattle.grain_file.specs.SidecarFile.{IsSidecarFile, sidecar_parts}
use Rattle.grain_file.specs.declared.file.Limits.{Limits}
use Rattle.grain_file.proofs.ChangedFiles.{HasShorterFile, bare_file, spelled_for, tight_file}
use Rattle.grain_flat_file.specs.Changed.{AreStrippedFiles, HasFile, IsItsFile, IsTightFile}
use Rattle.grain_flat_file.specs.declared.changed.Stripped.{Stripped}
use Rattle.grain_bytecode.specs.Positions.{IsRead}
use Rattle.grain_verify.specs.Meter.{AreReached, HasCounted}

module _ (limits : Limits) (bytes : List ℕ) where
  has_file : (p : Program) → HasShorterFile limits bytes p → HasFile p
  has_file p h = record { bounds = bounds_of limits; bytes = spelled_for limits p; is = h.is.file }

  written : (p : Program) (file : List ℕ) → HasShorterFile limits bytes p → IsItsFile p file → file ≡ spelled_for limits p
  written p file h its = its (bounds_of limits) (spelled_for limits p) h.is.file

  module _ (old new : Program) (file : IsFileOf limits bytes old) where
    pub tight_has_file : IsTightened old new → HasFile new
    tight_has_file tight = has_file new (tight_file limits bytes old new file tight)

    pub bare_has_file : IsStripped old new → HasFile new
    bare_has_file bare = has_file new (bare_file limits bytes old new file bare)

    pub tight_written : (again : List ℕ) (before after : ℕ) → IsTightened old new → IsItsFile new again → (n : ℕ) × AreReached (input_of old).code (chunks_of old) n × HasCounted before after n
        → IsTightFile limits bytes again before after
    tight_written again before after tight its reached =
        let h = tight_file limits bytes old new file tight in
        let e = written new again h its in
        record {
          read = old;
          tight = new;
          file = file;
          tightened = tight;
          again = subst (λ (b : List ℕ). IsFileOf limits b new) (sym e) h.is;
          shorter = subst (λ (b : List ℕ). length b ≤ length bytes) (sym e) h.shorter;
          reached = reached;
        }

    pub bare_written : (positions : Sidecar) (files : Stripped) → IsStripped old new → IsSidecar old positions → IsRead positions.positions.items old.code (places_of old) → IsItsFile new files.program.items → IsSidecarFile files.sidecar.items (sidecar_parts positions)
        → AreStrippedFiles limits bytes files
    bare_written positions files bare sidecar restores its apart =
        let h = bare_file limits bytes old new file bare in
        let e = written new files.program.items h its in
        record {
          read = old;
          bare = new;
          positions = positions;
          file = file;
          stripped = bare;
          sidecar = sidecar;
          restores = restores;
          again = subst (λ (b : List ℕ). IsFileOf limits b new) (sym e) h.is;
          shorter = subst (λ (b : List ℕ). length b ≤ length bytes) (sym e) h.shorter;
          apart = apart;
        }
