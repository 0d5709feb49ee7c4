-- What stripping a file answers, where its files are made.
use Rattle.std.proofs.Common.{◌≡◌, ◌⊎◌, ◌<◌, ◌≤◌, ℕ, Bool, false, List, ◌++◌, drop, length, refl, inl, inr}
use Rattle.std.specs.Prelude.{IsTrue, ◌↔◌}
use Rattle.std.proofs.lemmas.Bool.{cases_lt}
use Rattle.grain_c.specs.Changed.{IsStripAnswer, LentPair}
use Rattle.grain_c.specs.declared.status.TheConstants.{ACCEPTED, SHORT}
use Rattle.grain_file.specs.declared.file.Limits.{Limits}
use Rattle.grain_flat_file.specs.Changed.{AreStrippedFiles}
use Rattle.grain_flat_file.specs.declared.changed.Stripped.{Stripped}

module _ (limits : Limits) (bytes : List ℕ) (old : LentPair) where
  pub stripped : (files : Stripped) → AreStrippedFiles limits bytes files
      → IsStripAnswer limits bytes old (record old { room = files.program.items ++ drop (length files.program.items) old.room; size = length files.program.items; sidecar_room = files.sidecar.items ++ drop (length files.sidecar.items) old.sidecar_room; sidecar_size = length files.sidecar.items }) ACCEPTED
  stripped files are = record {
    accepted = λ e. (files, are, record { program = refl; sidecar = refl }, refl, refl);
    short = λ e. cc;
    too_long = λ e. cc;
    not_restorable = λ e. cc;
    malformed = λ e. cc;
    bad_limit = λ e. cc;
    only = λ p f a r. inl refl;
    answers = inl refl;
    rooms_kept = λ e. absurd (e refl);
    sizes_kept = λ e f. absurd (e refl);
    error_kept = λ e. refl;
  }

  pub too_short : (files : Stripped) → AreStrippedFiles limits bytes files → ((length old.room < length files.program.items) ⊎ (length old.sidecar_room < length files.sidecar.items))
      → IsStripAnswer limits bytes old (record old { size = length files.program.items; sidecar_size = length files.sidecar.items }) SHORT
  too_short files are less = record {
    accepted = λ e. cc;
    short = λ e. (files, are, record { program = refl; sidecar = refl }, less);
    too_long = λ e. cc;
    not_restorable = λ e. cc;
    malformed = λ e. cc;
    bad_limit = λ e. cc;
    only = λ p f a r. inr (inl refl);
    answers = inr (inl refl);
    rooms_kept = λ e. (refl, refl);
    sizes_kept = λ e f. absurd (f refl);
    error_kept = λ e. refl;
  }

-- where not both fit, one is too long
pub one_is_long : (a b c d : ℕ) (fit : Bool) → (IsTrue fit ↔ ((a ≤ b) × (c ≤ d))) → fit ≡ false → (b < a) ⊎ (d < c)
one_is_long a b c d fit both none = elim (cases_lt b a) [
  | inl long ↦ inl long
  | inr first ↦ elim (cases_lt d c) [
    | inl long ↦ inr long
    | inr second ↦ absurd (let yes = both.1 (first, second) in cc)
  ]
]
