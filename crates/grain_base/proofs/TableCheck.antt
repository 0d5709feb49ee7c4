-- A table, checked entry by entry.
use Rattle.std.proofs.Common.{◌≡◌, ℕ, zero, suc, ◌+◌, ◌-◌, ◌*◌, ◌^◌, ◌<◌, ◌≤◌, inl, inr, List, [], ◌∷◌, ◌++◌, length, drop, All, Result, Ok, Err, sum, refl, sym, ap, subst, ◌∙◌, arith}
use Rattle.std.specs.List.Sorted.{IsStrictlyIncreasing}
use Rattle.std.proofs.lemmas.List.{length-drop, length-append, drop_all}
use Rattle.std.proofs.lemmas.List.Elements.{All-nil, All-head, All-tail}
use Rattle.grain_base.specs.declared.pos.Error.{Error}
use Rattle.grain_base.specs.declared.pos.Error.TheVariants.{Overflow, OutOfOrder, TrailingBytes}
use Rattle.grain_base.specs.declared.varint.Error.{Error as NumberError}
use Rattle.grain_base.specs.declared.varint.Error.TheVariants as number_error
use Rattle.grain_base.specs.Varint.{BeginsNumbers, U32Flaw}
use Rattle.grain_base.specs.AddressTable.{Entry, addresses, AreEntries, Table, deltas, Ascend, IsUnreadable, IsNextDelta, FirstFlaw, as_table_error}
use Rattle.grain_base.proofs.Numbers.{begins-append, begins_front}
use Rattle.grain_base.proofs.Deltas.{ascend_more, sum_more, sum-cons}
use Rattle.grain_base.proofs.IncreasingLists.{rises_none, rises_one, rises_cons}
use Rattle.grain_base.proofs.Verdict.{Says}

-- Behind the count of a table the numbers of this many entries are read, in order, up to the cursor. They lead to the
-- address.
pub record Checked (table : List ℕ) (count entries address at : ℕ) : Type 0 where
  pub numbers : List ℕ
  pub read : BeginsNumbers table (count ∷ numbers) (drop at table)
  pub whole : length numbers ≡ 3 * entries
  pub ascend : Ascend numbers
  pub sum : sum (deltas numbers) ≡ address
  pub within : at ≤ length table

pub checked_none : (table : List ℕ) (count at : ℕ) → BeginsNumbers table (count ∷ []) (drop at table) → at ≤ length table → Checked table count 0 0 at
checked_none table count at counted within = record { numbers = []; read = counted; whole = refl; ascend = (All-nil (λ d. 0 < d), omega arith); sum = refl; within = within }

-- an error of the number that is due
pub unreadable : (table : List ℕ) (error : NumberError) → IsUnreadable table error → FirstFlaw table (as_table_error error)
unreadable table number_error.Truncated flaw = flaw
unreadable table number_error.Overflow flaw = inl flaw

pub bad_count : (table : List ℕ) (error : NumberError) → U32Flaw table error → FirstFlaw table (as_table_error error)
bad_count table error flaw = unreadable table error (record { numbers = []; left = table; read = refl; unfinished = tt; flaw = flaw })

pub bad_delta : (table : List ℕ) (count entries address at : ℕ) (error : NumberError) → Checked table count entries address at → entries < count → U32Flaw (drop at table) error → FirstFlaw table (as_table_error error)
bad_delta table count entries address at error c more flaw =
    unreadable table error (record { numbers = count ∷ c.numbers; left = drop at table; read = c.read; unfinished = (omega (arith, c.whole), c.ascend); flaw = flaw })

-- the next delta leads on
pub record Leads (entries address delta : ℕ) : Type 0 where
  pub later : 0 < entries → 0 < delta
  pub fits : address + delta < 2 ^ 32

-- with the numbers of an entry that has begun all is in order
begun : (table : List ℕ) (count entries address at delta : ℕ) (some : List ℕ) (c : Checked table count entries address at) → Leads entries address delta → deltas some ≡ delta ∷ [] → Ascend (c.numbers ++ some)
begun table count entries address at delta some c leads one =
    ascend_more entries delta c.numbers some c.whole one c.ascend leads.later (omega (arith, c.sum, leads.fits))

unreadable_behind : (table : List ℕ) (count entries address at delta : ℕ) (some left : List ℕ) (error : NumberError) (c : Checked table count entries address at) → entries < count
    → Leads entries address delta → deltas some ≡ delta ∷ [] → length some < 3
    → BeginsNumbers (drop at table) some left → U32Flaw left error → FirstFlaw table (as_table_error error)
unreadable_behind table count entries address at delta some left error c more leads one short read flaw =
    unreadable table error (record {
      numbers = count ∷ (c.numbers ++ some);
      left = left;
      read = begins-append table (count ∷ c.numbers) some (drop at table) left c.read read;
      unfinished = (omega (arith, c.whole, length-append c.numbers some), begun table count entries address at delta some c leads one);
      flaw = flaw;
    })

pub bad_line : (table : List ℕ) (count entries address at delta after : ℕ) (error : NumberError) → Checked table count entries address at → entries < count → Leads entries address delta
    → BeginsNumbers (drop at table) (delta ∷ []) (drop after table) → U32Flaw (drop after table) error → FirstFlaw table (as_table_error error)
bad_line table count entries address at delta after error c more leads first flaw =
    unreadable_behind table count entries address at delta (delta ∷ []) (drop after table) error c more leads refl (omega arith) first flaw

pub bad_column : (table : List ℕ) (count entries address at delta line after mid : ℕ) (error : NumberError) → Checked table count entries address at → entries < count → Leads entries address delta
    → BeginsNumbers (drop at table) (delta ∷ []) (drop after table) → BeginsNumbers (drop after table) (line ∷ []) (drop mid table) → U32Flaw (drop mid table) error → FirstFlaw table (as_table_error error)
bad_column table count entries address at delta line after mid error c more leads first second flaw =
    unreadable_behind table count entries address at delta (delta ∷ line ∷ []) (drop mid table) error c more leads refl (omega arith)
    (begins-append (drop at table) (delta ∷ []) (line ∷ []) (drop after table) (drop mid table) first second) flaw

pub checked_more : (table : List ℕ) (count entries address at delta line column after mid rest : ℕ) → Checked table count entries address at → Leads entries address delta
    → BeginsNumbers (drop at table) (delta ∷ []) (drop after table) → BeginsNumbers (drop after table) (line ∷ []) (drop mid table) → BeginsNumbers (drop mid table) (column ∷ []) (drop rest table) → rest ≤ length table
    → Checked table count (entries + 1) (address + delta) rest
checked_more table count entries address at delta line column after mid rest c leads first second third within =
    let some = delta ∷ line ∷ column ∷ [] in
    record {
      numbers = c.numbers ++ some;
      read = begins-append table (count ∷ c.numbers) some (drop at table) (drop rest table) c.read
          (begins-append (drop at table) (delta ∷ []) (line ∷ column ∷ []) (drop after table) (drop rest table) first
          (begins-append (drop after table) (line ∷ []) (column ∷ []) (drop mid table) (drop rest table) second third));
      whole = omega (arith, c.whole, length-append c.numbers some);
      ascend = begun table count entries address at delta some c leads refl;
      sum = sum_more entries delta c.numbers some c.whole refl ∙ omega (arith, c.sum);
      within = within;
    }

-- a delta that doesn't lead on
next_delta : (table : List ℕ) (count entries address at delta after : ℕ) (c : Checked table count entries address at) → entries < count
    → BeginsNumbers (drop at table) (delta ∷ []) (drop after table) → IsNextDelta table c.numbers delta
next_delta table count entries address at delta after c more first = record {
  count = count;
  entries = entries;
  left = drop after table;
  read = begins-append table (count ∷ c.numbers) (delta ∷ []) (drop at table) (drop after table) c.read first;
  whole = c.whole;
  unfinished = (omega (arith, c.whole), c.ascend);
}

pub repeated : (table : List ℕ) (count entries address at delta after : ℕ) (c : Checked table count entries address at) → entries < count
    → BeginsNumbers (drop at table) (delta ∷ []) (drop after table) → delta ≡ 0 → 0 < entries → FirstFlaw table (OutOfOrder address)
repeated table count entries address at delta after c more first none later =
    (c.numbers, subst (IsNextDelta table c.numbers) none (next_delta table count entries address at delta after c more first), omega (arith, c.whole), sym c.sum)

pub past : (table : List ℕ) (count entries address at delta after : ℕ) (c : Checked table count entries address at) → entries < count
    → BeginsNumbers (drop at table) (delta ∷ []) (drop after table) → 2 ^ 32 ≤ address + delta → FirstFlaw table Overflow
past table count entries address at delta after c more first large =
    inr (c.numbers, delta, next_delta table count entries address at delta after c more first, omega (arith, c.sum))

-- the entries of their numbers
paired : ℕ → List ℕ → List Entry
paired before [] = []
paired before (delta ∷ []) = []
paired before (delta ∷ line ∷ []) = []
paired before (delta ∷ line ∷ column ∷ numbers) = (before + delta, record { line = line; column = column }) ∷ paired (before + delta) numbers

paired_are : (entries before : ℕ) (bytes numbers rest : List ℕ) → length numbers ≡ 3 * entries → BeginsNumbers bytes numbers rest → before + sum (deltas numbers) < 2 ^ 32
    → AreEntries before bytes (paired before numbers) rest × (length (paired before numbers) ≡ entries)
unfolding paired
paired_are entries before bytes [] rest whole begins fits = (begins, omega arith)
paired_are entries before bytes (d ∷ []) rest whole begins fits = absurd (omega arith)
paired_are entries before bytes (d ∷ l ∷ []) rest whole begins fits = absurd (omega arith)
paired_are zero before bytes (d ∷ l ∷ c ∷ numbers) rest whole begins fits = absurd (omega arith)
paired_are (suc entries) before bytes (d ∷ l ∷ c ∷ numbers) rest whole begins fits =
    let below = sum-cons d (deltas numbers) in
    let more = paired_are entries (before + d) begins.4.4.1 numbers rest (omega arith) begins.4.4.4 (omega arith) in (
      (
        begins.4.4.1,
        record {
          delta = d;
          spelled = (
            begins.0,
            begins.1,
            begins.2,
            begins.3,
            (begins.4.0, begins.4.1, begins.4.2, begins.4.3, (begins.4.4.0, begins.4.4.1, begins.4.4.2, begins.4.4.3, refl)),
          );
          address = refl;
          fits = omega arith;
        },
        more.0,
      ),
      omega (arith, more.1),
    )

paired_rise : (before : ℕ) (numbers : List ℕ) → All (λ delta. 0 < delta) (deltas numbers) → IsStrictlyIncreasing (before ∷ addresses (paired before numbers))
unfolding paired
paired_rise before [] some = rises_one before
paired_rise before (d ∷ []) some = rises_one before
paired_rise before (d ∷ l ∷ []) some = rises_one before
paired_rise before (d ∷ l ∷ c ∷ numbers) some =
    rises_cons before (before + d) (addresses (paired (before + d) numbers)) (omega (arith, All-head (λ delta. 0 < delta) d (deltas numbers) some))
    (paired_rise (before + d) numbers (All-tail (λ delta. 0 < delta) d (deltas numbers) some))

all_rise : (numbers : List ℕ) → Ascend numbers → IsStrictlyIncreasing (addresses (paired 0 numbers))
unfolding paired
all_rise [] ascend = rises_none
all_rise (d ∷ []) ascend = rises_none
all_rise (d ∷ l ∷ []) ascend = rises_none
all_rise (d ∷ l ∷ c ∷ numbers) ascend = paired_rise (0 + d) numbers ascend.0

-- all entries are read
table_of : (table : List ℕ) (count entries address at : ℕ) (c : Checked table count entries address at) → entries ≡ count → (front : List ℕ) → BeginsNumbers front (count ∷ c.numbers) [] → Table front (paired 0 c.numbers)
table_of table count entries address at c all front read =
    let are = paired_are entries 0 read.1 c.numbers [] c.whole read.4 (omega (arith, c.ascend.1)) in
    let long : length (paired 0 c.numbers) ≡ count = are.1 ∙ all in
    record {
      after = read.1;
      counted = subst (λ (n : ℕ). BeginsNumbers front (n ∷ []) read.1) (sym long) (read.0, read.1, read.2, read.3, refl);
      entries = are.0;
      ascending = all_rise c.numbers c.ascend;
    }

pub no_bytes_left : (table : List ℕ) (count entries address at : ℕ) → Checked table count entries address at → entries ≡ count → length table - at ≡ 0 → Says table (Ok tt)
no_bytes_left table count entries address at c all none =
    let over : drop at table ≡ [] = drop_all at table (omega arith) in
    (paired 0 c.numbers, table_of table count entries address at c all table (subst (BeginsNumbers table (count ∷ c.numbers)) over c.read))

pub bytes_left : (table : List ℕ) (count entries address at : ℕ) → Checked table count entries address at → entries ≡ count → 0 < length table - at → Says table (Err (TrailingBytes (length table - at)))
bytes_left table count entries address at c all some =
    let front = begins_front table (count ∷ c.numbers) (drop at table) c.read in
    (front.0, drop at table, paired 0 c.numbers, front.1, table_of table count entries address at c all front.0 front.2, some, sym (length-drop at table))

-- what is returned where a number can't be read
pub says_error : (table : List ℕ) (answer : Result (Unit {0}) Error) (error : Error) → (returned : Error) × (answer ≡ Err returned) × (returned ≡ error) → FirstFlaw table error → Says table answer
says_error table answer error exit flaw = subst (Says table) (sym (exit.1 ∙ ap (λ (e : Error). Err e) exit.2)) flaw
