-- What the entries of an address table are in all.
use Rattle.std.proofs.Common.{◌≡◌, ℕ, suc, ◌⊎◌, inl, inr, List, [], ◌∷◌, Some, refl, sym, ap, subst, ◌∙◌, arith}
use Rattle.std.specs.Iterator.{Drains}
use Rattle.grain_base.specs.declared.varint.Error.{Error}
use Rattle.grain_base.specs.Varint.{BeginsNumbers, U32Flaw}
use Rattle.grain_base.specs.EntriesLeft.{EntriesLeft}
use Rattle.grain_base.specs.AddressTable.{Entry, NoneNext, LongestFront, EntrySteps}
use Rattle.grain_base.proofs.Numbers.{begins_once}
use Rattle.grain_base.proofs.Entries.{entries_from, entries_more, entries_none, entries_over, entries_drain, front, front_counted, front_uncounted, front_is, front_once}

-- the entries that are left
abbrev pub left : EntriesLeft → List Entry
left s = entries_from s.count s.before s.bytes

pub left_none : (s : EntriesLeft) → (s.count ≡ 0) ⊎ NoneNext s.before s.bytes → left s ≡ []
left_none s (inl over) = entries_over s.count s.before s.bytes over
left_none s (inr none) = entries_none s.count s.before s.bytes none

pub left_more : (s new : EntriesLeft) (entry : Entry) → EntrySteps s (Some entry) new → left s ≡ entry ∷ left new
left_more s new entry step =
    let count : s.count ≡ suc new.count = omega (arith, step.0) in
    ap (λ (n : ℕ). entries_from n s.before s.bytes) count ∙ entries_more new.count s.before s.bytes entry new.bytes step.1
    ∙ ap (λ (n : ℕ). entry ∷ entries_from new.count n new.bytes) (sym step.2)

pub drained : (s : EntriesLeft) (items : List Entry) → Drains EntrySteps s items → items ≡ left s
drained s [] d = sym (ap left d.1.1 ∙ left_none d.1.0 d.1.2.0)
drained s (entry ∷ items) d =
    let new = d.1.1.0 in
    let more = drained new items (d.0, (d.1.0, d.1.1.2, d.1.2)) in
    ap (λ (xs : List Entry). entry ∷ xs) more ∙ sym (left_more s new entry d.1.1.1)

pub gives_front : (table : List ℕ) (n : ℕ) (after : List ℕ) (items : List Entry) → BeginsNumbers table (n ∷ []) after → Drains EntrySteps (record { count = n; before = 0; bytes = after }) items → LongestFront table items
gives_front table n after items begins d =
    let all : front table ≡ items = front_counted table n after begins ∙ sym (drained _ items d) in
    subst (λ (list : List Entry). LongestFront table list) all (front_is table)

pub gives_nothing : (table bytes : List ℕ) (error : Error) (items : List Entry) → U32Flaw table error → Drains EntrySteps (record { count = 0; before = 0; bytes = bytes }) items → LongestFront table items
gives_nothing table bytes error items flaw d =
    let all : front table ≡ items = front_uncounted table error flaw ∙ sym (drained _ items d ∙ entries_over 0 0 bytes refl) in
    subst (λ (list : List Entry). LongestFront table list) all (front_is table)

-- the count that begins the bytes is one, and so is what follows it
pub start_once : (table : List ℕ) (m n : ℕ) (rest after : List ℕ) → BeginsNumbers table (m ∷ []) rest → BeginsNumbers table (n ∷ []) after
    → ◌≡◌ {A = EntriesLeft} (record { count = m; before = 0; bytes = rest }) (record { count = n; before = 0; bytes = after })
start_once table m n rest after first second =
    let one = begins_once table m n rest after first second in
    let number = one.0 in
    let bytes = one.1 in
    cc

-- what is left where the entries are the front of the bytes
pub all_left : (table : List ℕ) (s : EntriesLeft) → ((items : List Entry) → Drains EntrySteps s items → LongestFront table items) → left s ≡ front table
all_left table s gives = front_once table (left s) (front table) (gives (left s) (entries_drain s.count s.before s.bytes)) (front_is table)
