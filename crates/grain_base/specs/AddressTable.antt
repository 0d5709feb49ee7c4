-- The address table, which leads from addresses to sites. In this file a table is an address table.
use Rattle.std.specs.Prelude.{◌≡◌, ℕ, ◌+◌, ◌-◌, ◌*◌, ◌^◌, ◌<◌, ◌≤◌, ◌⊎◌, List, [], ◌∷◌, ◌++◌, length, drop, map, sum, filter, find, All, Option, Some, None, option_and_then, ◌==◌, not, if◌then◌else◌, codes, decimal}
use Rattle.std.specs.List.Sorted.{IsStrictlyIncreasing}
use Rattle.grain_base.specs.declared.pos.Error.{Error}
use Rattle.grain_base.specs.declared.pos.Error.TheVariants as table_error
use Rattle.grain_base.specs.declared.pos.Site.{Site}
use Rattle.grain_base.specs.declared.varint.Error.{Error as NumberError}
use Rattle.grain_base.specs.declared.varint.Error.TheVariants as number_error
use Rattle.grain_base.specs.EntriesLeft.{EntriesLeft}
use Rattle.grain_base.specs.Varint.{BeginsNumbers, U32Flaw}

-- an address, and the site recorded for it
abbrev pub Entry : Type 0
Entry = ℕ × Site

abbrev pub addresses : List Entry → List ℕ
addresses list = map (λ entry. entry.0) list

-- An entry stands at the front of the bytes, and then the rest follows: a delta, the line and the column. The delta
-- leads to its address from the one before it.
pub record IsNext (before : ℕ) (bytes : List ℕ) (entry : Entry) (rest : List ℕ) : Type 0 where
  pub delta : ℕ
  pub spelled : BeginsNumbers bytes (delta ∷ entry.1.line ∷ entry.1.column ∷ []) rest
  pub address : entry.0 ≡ before + delta
  pub fits : entry.0 < 2 ^ 32

-- no entry stands at the front of the bytes
abbrev pub NoneNext : ℕ → List ℕ → Type 0
NoneNext before bytes = (entry : Entry) (rest : List ℕ) → IsNext before bytes entry rest → ⊥

-- entries stand at the front of the bytes, one after another, and then the rest follows
abbrev pub AreEntries : ℕ → List ℕ → List Entry → List ℕ → Type 0
AreEntries before bytes [] rest = bytes ≡ rest
AreEntries before bytes (entry ∷ entries) rest = (after : List ℕ) × IsNext before bytes entry after × AreEntries entry.0 after entries rest

-- The bytes are a table of these entries: how many they are, and then each of them. Their addresses strictly ascend.
pub record Table (bytes : List ℕ) (list : List Entry) : Type 0 where
  pub after : List ℕ
  pub counted : BeginsNumbers bytes (length list ∷ []) after
  pub entries : AreEntries 0 after list []
  pub ascending : IsStrictlyIncreasing (addresses list)

-- these entries stand in the bytes behind a count, which is no less than their number
pub record Holds (bytes : List ℕ) (list : List Entry) : Type 0 where
  pub count : ℕ
  pub after : List ℕ
  pub rest : List ℕ
  pub counted : BeginsNumbers bytes (count ∷ []) after
  pub entries : AreEntries 0 after list rest
  pub enough : length list ≤ count

-- the longest list of entries that the bytes hold, or none where they begin with no count
pub record LongestFront (bytes : List ℕ) (list : List Entry) : Type 0 where
  pub held : (list ≡ []) ⊎ Holds bytes list
  pub longest : (other : List Entry) → Holds bytes other → length other ≤ length list

-- One step gives the entry that comes first, and leaves what follows it. It gives nothing, and leaves all, if no entry
-- is due or none comes.
abbrev pub EntrySteps : EntriesLeft → Option Entry → EntriesLeft → Type 0
EntrySteps old None new = ((old.count ≡ 0) ⊎ NoneNext old.before old.bytes) × (new ≡ old)
EntrySteps old (Some entry) new = (old.count ≡ new.count + 1) × IsNext old.before old.bytes entry new.bytes × (new.before ≡ entry.0)

-- these entries are due, and stand there
abbrev pub AreDue : EntriesLeft → List Entry → Type 0
AreDue left list = (rest : List ℕ) × AreEntries left.before left.bytes list rest × (left.count ≡ length list)

-- line 0 says that the site isn't known
abbrev pub known : Entry → Option Site
known entry = if entry.1.line == 0 then None else Some entry.1

-- the site of the first entry at an address, if there is one and its site is known
abbrev pub site_at : List Entry → ℕ → Option Site
site_at list address = option_and_then known (find (λ entry. entry.0 == address) list)

-- the entries whose site is known
abbrev pub entries_with_site : List Entry → List Entry
entries_with_site list = filter (λ entry. not (entry.1.line == 0)) list

-- the numbers of entries in order: of each its address less the one before it, its line and its column
abbrev pub numbers_from : ℕ → List Entry → List ℕ
numbers_from before [] = []
numbers_from before (entry ∷ entries) = (entry.0 - before) ∷ entry.1.line ∷ entry.1.column ∷ numbers_from entry.0 entries

-- the deltas among the numbers of entries, of each three the first; the last entry may have begun only
abbrev pub deltas : List ℕ → List ℕ
deltas [] = []
deltas (delta ∷ []) = delta ∷ []
deltas (delta ∷ line ∷ []) = delta ∷ []
deltas (delta ∷ line ∷ column ∷ numbers) = delta ∷ deltas numbers

-- The numbers of entries lead to addresses that strictly ascend and fit: no delta but the first is 0, and the sum of the
-- deltas, which is the last address, fits.
abbrev pub Ascend : List ℕ → Type 0
Ascend numbers = All (λ delta. 0 < delta) (drop 1 (deltas numbers)) × (sum (deltas numbers) < 2 ^ 32)

-- Behind these numbers of a table, all in order, another is due: its count, or one of the three of each entry.
abbrev pub IsUnfinished : List ℕ → Type 0
IsUnfinished [] = Unit {0}
IsUnfinished (count ∷ numbers) = (length numbers < 3 * count) × Ascend numbers

-- Behind some numbers of a table, all in order, another is due, and it can't be read for this reason.
pub record IsUnreadable (bytes : List ℕ) (error : NumberError) : Type 0 where
  pub numbers : List ℕ
  pub left : List ℕ
  pub read : BeginsNumbers bytes numbers left
  pub unfinished : IsUnfinished numbers
  pub flaw : U32Flaw left error

-- Behind the numbers of whole entries, all in order, another entry is due, and this delta stands there.
pub record IsNextDelta (bytes numbers : List ℕ) (delta : ℕ) : Type 0 where
  pub count : ℕ
  pub entries : ℕ
  pub left : List ℕ
  pub read : BeginsNumbers bytes (count ∷ numbers ++ delta ∷ []) left
  pub whole : length numbers ≡ 3 * entries
  pub unfinished : IsUnfinished (count ∷ numbers)

-- What is wrong first with bytes that are no table, in the order in which they are read: a number that is due is cut
-- short; one is too wide, or leads past the greatest address; a delta repeats an address; or bytes follow a whole table.
abbrev pub FirstFlaw : List ℕ → Error → Type 0
FirstFlaw bytes table_error.Truncated = IsUnreadable bytes number_error.Truncated
FirstFlaw bytes table_error.Overflow = IsUnreadable bytes number_error.Overflow ⊎ ((numbers : List ℕ) × (delta : ℕ) × IsNextDelta bytes numbers delta × (2 ^ 32 ≤ sum (deltas numbers) + delta))
FirstFlaw bytes (table_error.OutOfOrder at) = (numbers : List ℕ) × IsNextDelta bytes numbers 0 × (0 < length numbers) × (at ≡ sum (deltas numbers))
FirstFlaw bytes (table_error.TrailingBytes count) = (table more : List ℕ) × (list : List Entry) × (bytes ≡ table ++ more) × Table table list × (0 < count) × (count ≡ length more)

-- an error of a number as one of an address table
abbrev pub as_table_error : NumberError → Error
as_table_error number_error.Truncated = table_error.Truncated
as_table_error number_error.Overflow = table_error.Overflow

-- what is printed of an error
abbrev pub table_error_text : Error → List ℕ
table_error_text table_error.Truncated = codes "address table ends before its last number"
table_error_text table_error.Overflow = codes "address table holds a number or an address too wide to read"
table_error_text (table_error.OutOfOrder at) = codes "address table has two entries in a row for address " ++ decimal at
table_error_text (table_error.TrailingBytes count) =
    codes "address table has " ++ decimal count ++ codes " bytes past its last entry"

-- what is printed of an error for programmers: its name and its fields
abbrev pub debug_text_of : Error → List ℕ
debug_text_of table_error.Truncated = codes "Truncated"
debug_text_of table_error.Overflow = codes "Overflow"
debug_text_of (table_error.OutOfOrder at) = codes "OutOfOrder { at: " ++ decimal at ++ codes " }"
debug_text_of (table_error.TrailingBytes count) =
    codes "TrailingBytes { count: " ++ decimal count ++ codes " }"
