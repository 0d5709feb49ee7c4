-- What a check has to answer: the one answer that the bytes allow.
use Rattle.std.proofs.Common.{◌≡◌, ℕ, zero, suc, ◌+◌, ◌*◌, ◌^◌, ◌<◌, ◌≤◌, ◌↔◌, inl, inr, List, [], ◌∷◌, ◌++◌, length}
use Rattle.std.proofs.Common.{Option, Some, None, Result, Ok, Err, IsOk, cond, nat_eq, nat_lt, sum, refl, sym, ap, subst, ◌∙◌, arith}
use Rattle.std.specs.List.Sorted.{IsStrictlyIncreasing}
use Rattle.std.proofs.lemmas.Bool.{ne_eqb, lt-ltb, le-ltb}
use Rattle.grain_base.specs.declared.pos.Error.{Error}
use Rattle.grain_base.specs.declared.pos.Error.TheVariants.{Truncated, Overflow, OutOfOrder, TrailingBytes}
use Rattle.grain_base.specs.declared.varint.Error.{Error as NumberError}
use Rattle.grain_base.specs.declared.varint.Error.TheVariants as number_error
use Rattle.grain_base.specs.Varint.{BeginsNumbers, U32Flaw}
use Rattle.grain_base.specs.AddressTable.{Entry, addresses, AreEntries, Table, deltas, IsUnfinished, IsUnreadable, IsNextDelta, FirstFlaw, as_table_error}
use Rattle.grain_base.proofs.Numbers.{three, begins_longer, begins_once, begins_flawless, one_u32_flaw, Reading, Number, Flaw, reading}
use Rattle.grain_base.proofs.IncreasingLists.{rises_next, rises_rest}
use Rattle.grain_base.proofs.Deltas.{Follows, led_to, LeadOn, last_from, lead_on, last_sum}

abbrev pub Answer : Type 0
Answer = Result (Unit {0}) Error

-- the answer once a number is read, or its error
after_number : {bytes : List ℕ} → Reading bytes → (ℕ → List ℕ → Answer) → Answer
after_number (Number n rest begins) then = then n rest
after_number (Flaw error flaw) then = Err (as_table_error error)

after_number_is : (bytes : List ℕ) (r : Reading bytes) (n : ℕ) (rest : List ℕ) (then : ℕ → List ℕ → Answer) → BeginsNumbers bytes (n ∷ []) rest → after_number r then ≡ then n rest
unfolding after_number
after_number_is bytes (Number m left found) n rest then begins = let one = begins_once bytes m n left rest found begins in ap (λ x. then x left) one.0 ∙ ap (then n) one.1
after_number_is bytes (Flaw error flaw) n rest then begins = absurd (begins_flawless bytes n rest error begins flaw)

after_flaw_is : (bytes : List ℕ) (r : Reading bytes) (error : NumberError) (then : ℕ → List ℕ → Answer) → U32Flaw bytes error → after_number r then ≡ Err (as_table_error error)
unfolding after_number
after_flaw_is bytes (Number m left found) error then flaw = absurd (begins_flawless bytes m left error found flaw)
after_flaw_is bytes (Flaw other found) error then flaw = ap (λ (e : NumberError). Err (as_table_error e)) (one_u32_flaw bytes other error found flaw)

-- the answer once a delta led on, or its error
after_delta : Option ℕ → ℕ → (ℕ → Answer) → Answer
after_delta None delta then = then delta
after_delta (Some address) delta then = cond (nat_eq delta 0) (Err (OutOfOrder address)) (cond (nat_lt (address + delta) (2 ^ 32)) (then (address + delta)) (Err Overflow))

after_delta_is : (previous : Option ℕ) (delta : ℕ) (then : ℕ → Answer) → Follows previous delta → after_delta previous delta then ≡ then (led_to previous delta)
unfolding after_delta
after_delta_is None delta then follows = refl
after_delta_is (Some address) delta then follows = rw (ne_eqb delta 0 (λ none. absurd (omega (arith, follows.0))), lt-ltb (address + delta) (2 ^ 32) follows.1) refl

-- the answer for this many entries behind an address, if there is one
answer_from : ℕ → Option ℕ → List ℕ → Answer
answer_from zero previous [] = Ok tt
answer_from zero previous (byte ∷ bytes) = Err (TrailingBytes (length (byte ∷ bytes)))
answer_from (suc count) previous bytes =
    after_number (reading bytes) (λ delta after. after_delta previous delta (λ address. after_number (reading after) (λ line mid. after_number (reading mid) (λ column rest. answer_from count (Some address) rest))))

-- Whole and unfinished entries, as far as they are in order.
one_read : (count : ℕ) (previous : Option ℕ) (bytes : List ℕ) (delta : ℕ) (after : List ℕ) → BeginsNumbers bytes (delta ∷ []) after → Follows previous delta
    → answer_from (suc count) previous bytes ≡ after_number (reading after) (λ line mid. after_number (reading mid) (λ column rest. answer_from count (Some (led_to previous delta)) rest))
unfolding answer_from
one_read count previous bytes delta after begins follows =
    after_number_is bytes (reading bytes) delta after _ begins ∙ after_delta_is previous delta _ follows

two_read : (count : ℕ) (previous : Option ℕ) (bytes : List ℕ) (delta line : ℕ) (after mid : List ℕ) → BeginsNumbers bytes (delta ∷ []) after → BeginsNumbers after (line ∷ []) mid → Follows previous delta
    → answer_from (suc count) previous bytes ≡ after_number (reading mid) (λ column rest. answer_from count (Some (led_to previous delta)) rest)
two_read count previous bytes delta line after mid begins second follows =
    one_read count previous bytes delta after begins follows ∙ after_number_is after (reading after) line mid _ second

entry_read : (count : ℕ) (previous : Option ℕ) (bytes : List ℕ) (delta line column : ℕ) (after mid rest : List ℕ) → BeginsNumbers bytes (delta ∷ []) after → BeginsNumbers after (line ∷ []) mid
    → BeginsNumbers mid (column ∷ []) rest → Follows previous delta
    → answer_from (suc count) previous bytes ≡ answer_from count (Some (led_to previous delta)) rest
entry_read count previous bytes delta line column after mid rest begins second third follows =
    two_read count previous bytes delta line after mid begins second follows ∙ after_number_is mid (reading mid) column rest _ third

unreadable_from : (count : ℕ) (previous : Option ℕ) (bytes numbers left : List ℕ) (error : NumberError) → BeginsNumbers bytes numbers left → length numbers < 3 * count → LeadOn previous numbers → U32Flaw left error
    → answer_from count previous bytes ≡ Err (as_table_error error)
unfolding answer_from
unreadable_from zero previous bytes numbers left error begins short lead flaw = absurd (omega arith)
unreadable_from (suc count) previous bytes [] left error begins short lead flaw =
    after_flaw_is bytes (reading bytes) error _ (subst (λ (xs : List ℕ). U32Flaw xs error) (sym begins) flaw)
unreadable_from (suc count) previous bytes (d ∷ []) left error begins short lead flaw =
    one_read count previous bytes d left begins lead ∙ after_flaw_is left (reading left) error _ flaw
unreadable_from (suc count) previous bytes (d ∷ l ∷ []) left error begins short lead flaw =
    two_read count previous bytes d l begins.1 left (begins.0, begins.1, begins.2, begins.3, refl) begins.4 lead ∙ after_flaw_is left (reading left) error _ flaw
unreadable_from (suc count) previous bytes (d ∷ l ∷ c ∷ numbers) left error begins short lead flaw =
    let p = three bytes d l c begins.4.4.1 (begins.0, begins.1, begins.2, begins.3, (begins.4.0, begins.4.1, begins.4.2, begins.4.3, (begins.4.4.0, begins.4.4.1, begins.4.4.2, begins.4.4.3, refl))) in
    entry_read count previous bytes d l c p.after p.mid begins.4.4.1 p.first p.second p.third lead.0
    ∙ unreadable_from count (Some (led_to previous d)) begins.4.4.1 numbers left error begins.4.4.4 (omega arith) lead.1 flaw

-- behind whole entries a delta stands that doesn't lead on
stopped_from : (count entries : ℕ) (previous : Option ℕ) (bytes numbers left : List ℕ) (delta : ℕ) (error : Error) → BeginsNumbers bytes (numbers ++ delta ∷ []) left
    → length numbers ≡ 3 * entries → length numbers < 3 * count → LeadOn previous numbers
    → ((then : ℕ → Answer) → after_delta (last_from previous numbers) delta then ≡ Err error) → answer_from count previous bytes ≡ Err error
unfolding answer_from
stopped_from zero entries previous bytes numbers left delta error begins whole short lead stop = absurd (omega arith)
stopped_from (suc count) entries previous bytes [] left delta error begins whole short lead stop =
    after_number_is bytes (reading bytes) delta left _ begins ∙ stop _
stopped_from (suc count) entries previous bytes (d ∷ []) left delta error begins whole short lead stop = absurd (omega arith)
stopped_from (suc count) entries previous bytes (d ∷ l ∷ []) left delta error begins whole short lead stop = absurd (omega arith)
stopped_from (suc count) zero previous bytes (d ∷ l ∷ c ∷ numbers) left delta error begins whole short lead stop = absurd (omega arith)
stopped_from (suc count) (suc entries) previous bytes (d ∷ l ∷ c ∷ numbers) left delta error begins whole short lead stop =
    let p = three bytes d l c begins.4.4.1 (begins.0, begins.1, begins.2, begins.3, (begins.4.0, begins.4.1, begins.4.2, begins.4.3, (begins.4.4.0, begins.4.4.1, begins.4.4.2, begins.4.4.3, refl))) in
    entry_read count previous bytes d l c p.after p.mid begins.4.4.1 p.first p.second p.third lead.0
    ∙ stopped_from count entries (Some (led_to previous d)) begins.4.4.1 numbers left delta error begins.4.4.4 (omega arith) (omega arith) lead.1 stop

-- at the end it doesn't matter where the entries led
over_any : (a b : Option ℕ) (bytes : List ℕ) → answer_from zero a bytes ≡ answer_from zero b bytes
unfolding answer_from
over_any a b [] = refl
over_any a b (byte ∷ bytes) = refl

entries_read : (before : ℕ) (bytes : List ℕ) (list : List Entry) (rest : List ℕ) → AreEntries before bytes list rest → IsStrictlyIncreasing (before ∷ addresses list)
    → answer_from (length list) (Some before) bytes ≡ answer_from zero None rest
entries_read before bytes [] rest are rises = ap (answer_from zero (Some before)) are ∙ over_any (Some before) None rest
entries_read before bytes (entry ∷ list) rest are rises =
    let next = are.1 in
    let p = three bytes next.delta entry.1.line entry.1.column are.0 next.spelled in
    let above = rises_next before entry.0 (addresses list) rises in
    entry_read (length list) (Some before) bytes next.delta entry.1.line entry.1.column p.after p.mid are.0 p.first p.second p.third (omega (arith, next.address, above), omega (arith, next.address, next.fits))
    ∙ ap (λ (a : ℕ). answer_from (length list) (Some a) are.0) (sym next.address)
    ∙ entries_read entry.0 are.0 list rest are.2 (rises_rest before (entry.0 ∷ addresses list) rises)

all_read : (bytes : List ℕ) (list : List Entry) (rest : List ℕ) → AreEntries 0 bytes list rest → IsStrictlyIncreasing (addresses list) → answer_from (length list) None bytes ≡ answer_from zero None rest
all_read bytes [] rest are rises = ap (answer_from zero None) are
all_read bytes (entry ∷ list) rest are rises =
    let next = are.1 in
    let p = three bytes next.delta entry.1.line entry.1.column are.0 next.spelled in
    entry_read (length list) None bytes next.delta entry.1.line entry.1.column p.after p.mid are.0 p.first p.second p.third (omega (arith, next.address, next.fits))
    ∙ ap (λ (a : ℕ). answer_from (length list) (Some a) are.0) (omega (arith, next.address))
    ∙ entries_read entry.0 are.0 list rest are.2 rises

-- the answer of a check
answer_of : List ℕ → Answer
answer_of bytes = after_number (reading bytes) (λ count after. answer_from count None after)

answer_counted : (bytes : List ℕ) (count : ℕ) (after : List ℕ) → BeginsNumbers bytes (count ∷ []) after → answer_of bytes ≡ answer_from count None after
unfolding answer_of
answer_counted bytes count after begins = after_number_is bytes (reading bytes) count after _ begins

table_answer : (bytes : List ℕ) (list : List Entry) → Table bytes list → answer_of bytes ≡ Ok tt
unfolding answer_from
table_answer bytes list table = answer_counted bytes (length list) table.after table.counted ∙ all_read table.after list [] table.entries table.ascending

unreadable_answer : (bytes : List ℕ) (error : NumberError) → IsUnreadable bytes error → answer_of bytes ≡ Err (as_table_error error)
unfolding answer_of
unreadable_answer bytes error u = by_case u.numbers u.read u.unfinished
  where
    by_case : (numbers : List ℕ) → BeginsNumbers bytes numbers u.left → IsUnfinished numbers → answer_of bytes ≡ Err (as_table_error error)
    by_case [] read unfinished = after_flaw_is bytes (reading bytes) error _ (subst (λ (xs : List ℕ). U32Flaw xs error) (sym read) u.flaw)
    by_case (count ∷ numbers) read unfinished =
        answer_counted bytes count read.1 (read.0, read.1, read.2, read.3, refl)
        ∙ unreadable_from count None read.1 numbers u.left error read.4 unfinished.0 (lead_on numbers unfinished.1) u.flaw

stopped_answer : (bytes numbers : List ℕ) (delta : ℕ) (error : Error) (next : IsNextDelta bytes numbers delta)
    → ((then : ℕ → Answer) → after_delta (last_from None numbers) delta then ≡ Err error) → answer_of bytes ≡ Err error
stopped_answer bytes numbers delta error next stop =
    let read = next.read in
    answer_counted bytes next.count read.1 (read.0, read.1, read.2, read.3, refl)
    ∙ stopped_from next.count next.entries None read.1 numbers next.left delta error read.4 next.whole next.unfinished.0 (lead_on numbers next.unfinished.1) stop

no_delta_greater : (bytes numbers : List ℕ) (delta : ℕ) → IsNextDelta bytes numbers delta → 2 ^ 32 ≤ sum (deltas numbers) + delta → 0 < length numbers
no_delta_greater bytes [] delta next large = absurd (omega (arith, next.read.4.3.1))
no_delta_greater bytes (n ∷ numbers) delta next large = omega arith

past_answer : (bytes numbers : List ℕ) (delta : ℕ) → IsNextDelta bytes numbers delta → 2 ^ 32 ≤ sum (deltas numbers) + delta → answer_of bytes ≡ Err Overflow
unfolding after_delta
past_answer bytes numbers delta next large =
    let some = no_delta_greater bytes numbers delta next large in
    let last = last_sum next.entries numbers next.whole some in
    stopped_answer bytes numbers delta Overflow next (λ then. rw (last, ne_eqb delta 0 (λ none. absurd (omega (arith, next.unfinished.1.1))), le-ltb (sum (deltas numbers) + delta) (2 ^ 32) large) refl)

repeated_answer : (bytes numbers : List ℕ) → IsNextDelta bytes numbers 0 → 0 < length numbers → answer_of bytes ≡ Err (OutOfOrder (sum (deltas numbers)))
unfolding after_delta
repeated_answer bytes numbers next some =
    let last = last_sum next.entries numbers next.whole some in
    stopped_answer bytes numbers 0 (OutOfOrder (sum (deltas numbers))) next (λ then. rw last refl)

-- entries stand before more bytes as they did
entries_longer : (before : ℕ) (bytes : List ℕ) (list : List Entry) (rest more : List ℕ) → AreEntries before bytes list rest → AreEntries before (bytes ++ more) list (rest ++ more)
entries_longer before bytes [] rest more are = ap (λ (xs : List ℕ). xs ++ more) are
entries_longer before bytes (entry ∷ list) rest more are =
    let next = are.1 in (
      are.0 ++ more,
      record { delta = next.delta; spelled = begins_longer bytes (next.delta ∷ entry.1.line ∷ entry.1.column ∷ []) are.0 more next.spelled; address = next.address; fits = next.fits },
      entries_longer entry.0 are.0 list rest more are.2,
    )

trailing_answer : (table more : List ℕ) (list : List Entry) → Table table list → 0 < length more → answer_of (table ++ more) ≡ Err (TrailingBytes (length more))
unfolding answer_from
trailing_answer table [] list is some = absurd (omega arith)
trailing_answer table (byte ∷ more) list is some =
    answer_counted (table ++ byte ∷ more) (length list) (is.after ++ byte ∷ more) (begins_longer table (length list ∷ []) is.after (byte ∷ more) is.counted)
    ∙ all_read (is.after ++ byte ∷ more) list (byte ∷ more) (entries_longer 0 is.after list [] (byte ∷ more) is.entries) is.ascending

flaw_answer : (bytes : List ℕ) (error : Error) → FirstFlaw bytes error → answer_of bytes ≡ Err error
flaw_answer bytes Truncated flaw = unreadable_answer bytes number_error.Truncated flaw
flaw_answer bytes Overflow (inl flaw) = unreadable_answer bytes number_error.Overflow flaw
flaw_answer bytes Overflow (inr past) = past_answer bytes past.0 past.1 past.2 past.3
flaw_answer bytes (OutOfOrder at) flaw = repeated_answer bytes flaw.0 flaw.1 flaw.2 ∙ ap (λ (n : ℕ). Err (OutOfOrder n)) (sym flaw.3)
flaw_answer bytes (TrailingBytes count) flaw =
    ap answer_of flaw.3 ∙ trailing_answer flaw.0 flaw.1 flaw.2 flaw.4 (omega (arith, flaw.5, flaw.6)) ∙ ap (λ (n : ℕ). Err (TrailingBytes n)) (sym flaw.6)

-- The answer says what the bytes are.
abbrev pub Says : List ℕ → Answer → Type 0
Says bytes (Ok u) = (list : List Entry) × Table bytes list
Says bytes (Err error) = FirstFlaw bytes error

says_answer : (bytes : List ℕ) (answer : Answer) → Says bytes answer → answer_of bytes ≡ answer
says_answer bytes (Ok u) says = table_answer bytes says.0 says.1
says_answer bytes (Err error) says = flaw_answer bytes error says

-- so there is one answer
pub says_ok : (bytes : List ℕ) (answer : Answer) → Says bytes answer → IsOk answer ↔ ((list : List Entry) × Table bytes list)
says_ok bytes (Ok u) says = (λ ok. says, λ table. refl)
says_ok bytes (Err error) says = (λ ok. absurd cc, λ table. let same = sym (flaw_answer bytes error says) ∙ table_answer bytes table.0 table.1 in absurd cc)

pub says_err : (bytes : List ℕ) (answer : Answer) → Says bytes answer → (error : Error) → (answer ≡ Err error) ↔ FirstFlaw bytes error
says_err bytes answer says error = (λ same. subst (Says bytes) same says, λ flaw. sym (says_answer bytes answer says) ∙ flaw_answer bytes error flaw)
