-- What is said of a program's positions is said of each program of which as much is kept.
use Rattle.std.proofs.Common.{◌≡◌, ◌<◌, ◌^◌, ◌∷◌, ℕ, List, length, ap, subst, sym}
use Rattle.std.specs.Prelude.{Option}
use Rattle.std.specs.List.{All}
use Rattle.grain.specs.Program.{Program, places_of}
use Rattle.grain_base.specs.AddressTable.{Entry, numbers_from}
use Rattle.grain_base.specs.Varint.{AreShortest}
use Rattle.grain_bytecode.specs.Positions.{IsRead, Place, entries_at_places}
use Rattle.grain_file.specs.Causes.{IsReadCause}
use Rattle.grain_file.specs.Loading.{IsFileOf}
use Rattle.grain_file.specs.ProgramFile.{Kept, kept}
use Rattle.grain_file.specs.declared.file.Limits.{Limits}
use Rattle.grain_file.specs.declared.file.ReadError.{ReadError}
use Rattle.grain_flat_file.specs.Changed.{AddressesFit, IsPositionCause, IsRestorable, IsStripCause}
use Rattle.grain_flat_file.specs.declared.changed.StripStop.{StripStop}
use Rattle.grain_flat_file.specs.declared.changed.StripStop.TheVariants as stops

same_code : (p q : Program) → kept p ≡ kept q → p.code ≡ q.code
same_code p q e = ap (λ (k : Kept). k.0.1.1.0) e

same_places : (p q : Program) → kept p ≡ kept q → places_of p ≡ places_of q
same_places p q e = ap (λ (k : Kept). k.1.1.1.0) e

pub fit_too : (p q : Program) → kept p ≡ kept q → AddressesFit q → AddressesFit p
fit_too p q e fit = subst (λ (ps : Option (List Place)). All (λ (entry : Entry). entry.0 < 2 ^ 32) (entries_at_places ps)) (sym (same_places p q e)) fit

pub restorable_too : (p q : Program) → kept p ≡ kept q → IsRestorable q → IsRestorable p
restorable_too p q e restorable =
    let Restores : List ℕ → Option (List Place) → Type 0 =
    λ code ps. (table : List ℕ) → AreShortest table (length (entries_at_places ps) ∷ numbers_from 0 (entries_at_places ps)) → IsRead table code ps in
    subst (λ (ps : Option (List Place)). Restores p.code ps) (sym (same_places p q e)) (subst (λ (code : List ℕ). Restores code (places_of q)) (sym (same_code p q e)) restorable)

-- why the positions of what was read aren't taken off
pub strip_cause : (limits : Limits) (bytes : List ℕ) (p : Program) (stop : StripStop) → IsFileOf limits bytes p → IsPositionCause p stop → IsStripCause limits bytes stop
strip_cause limits bytes p (stops.Read error) file h = subst (λ (e : ReadError). IsReadCause limits bytes e) (sym h) tt
strip_cause limits bytes p stops.TooLong file h = (p, file, h)
strip_cause limits bytes p stops.NotRestorable file h = (p, file, h)
