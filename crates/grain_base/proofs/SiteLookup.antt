-- The site of an address among the entries that are left.
use Rattle.std.proofs.Common.{◌≡◌, ◌≢◌, ℕ, ◌<◌, ◌⊎◌, List, Some, None, find, cond, nat_eq, eq-eqb, option_and_then, refl, ap, ◌∙◌, arith}
use Rattle.std.proofs.lemmas.Bool.{ne_eqb}
use Rattle.grain_base.specs.EntriesLeft.{EntriesLeft}
use Rattle.grain_base.specs.AddressTable.{Entry, NoneNext, EntrySteps, site_at, known}
use Rattle.grain_base.proofs.Entries.{none_below}
use Rattle.grain_base.proofs.AllEntries.{left, left_none, left_more}

-- with one entry more
site_step : (s new : EntriesLeft) (entry : Entry) (address : ℕ) → EntrySteps s (Some entry) new
    → site_at (left s) address ≡ option_and_then known (cond (nat_eq entry.0 address) (Some entry) (find (λ e. nat_eq e.0 address) (left new)))
site_step s new entry address step = ap (λ (list : List Entry). site_at list address) (left_more s new entry step)

pub site_more : (s new : EntriesLeft) (entry : Entry) (address : ℕ) → EntrySteps s (Some entry) new → entry.0 ≢ address → site_at (left s) address ≡ site_at (left new) address
site_more s new entry address step other = rw (site_step s new entry address step, ne_eqb entry.0 address other) refl

pub site_here : (s new : EntriesLeft) (entry : Entry) (address : ℕ) → EntrySteps s (Some entry) new → entry.0 ≡ address → site_at (left s) address ≡ known entry
site_here s new entry address step same = rw (site_step s new entry address step, eq-eqb entry.0 address same) refl

pub site_past : (s new : EntriesLeft) (entry : Entry) (address : ℕ) → EntrySteps s (Some entry) new → address < entry.0 → site_at (left s) address ≡ None
site_past s new entry address step past =
    site_more s new entry address step (λ same. absurd (omega arith))
    ∙ ap (option_and_then known) (none_below new.count new.before new.bytes address (omega (arith, step.2)))

pub site_none : (s : EntriesLeft) (address : ℕ) → (s.count ≡ 0) ⊎ NoneNext s.before s.bytes → site_at (left s) address ≡ None
site_none s address none = ap (λ (list : List Entry). site_at list address) (left_none s none)

pub known_none : (entry : Entry) → entry.1.line ≡ 0 → known entry ≡ None
known_none entry none = rw (eq-eqb entry.1.line 0 none) refl

pub known_some : (entry : Entry) → entry.1.line ≢ 0 → known entry ≡ Some entry.1
known_some entry some = rw (ne_eqb entry.1.line 0 some) refl
