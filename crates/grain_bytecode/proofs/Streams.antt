-- What a stream of chain positions is read as: numbers one after another, of which there is one reading.
use Rattle.std.proofs.Common.{◌≡◌, ℕ, zero, suc, ◌+◌, ◌-◌, ◌*◌, ◌<◌, ◌≤◌, List, [], ◌∷◌, ◌++◌, length, drop, Option, Some, None, Result, Ok, Err, inl, inr, false, eqb, refl, sym, ap, subst, ◌∙◌, arith}
use Rattle.std.specs.Prelude.{IsOk, ◌↔◌}
use Rattle.std.proofs.lemmas.Bool.{ne_eqb, cases_eq}
use Rattle.std.proofs.lemmas.List.{length-append, length-drop, drop_at, nil_from_length}
use Rattle.std.proofs.Math.Seq.{drop-length}
use Rattle.grain_base.specs.declared.pos.Site.{Site}
use Rattle.grain_base.specs.declared.varint.Error.{Error as NumberError}
use Rattle.grain_base.specs.declared.varint.Error.TheVariants as number_error
use Rattle.grain_base.specs.Varint.{BeginsNumbers, U32Flaw}
use Rattle.grain_base.proofs.Numbers.{Reading, Number, Flaw, reading, begins_once, begins_flawless, begins-append, begins_longer, begins_front, one_u32_flaw}
use Rattle.grain_bytecode.specs.declared.sites.StreamError.{StreamError}
use Rattle.grain_bytecode.specs.declared.sites.StreamError.TheVariants.{Truncated, Overflow, TrailingBytes, OutOfMemory}
use Rattle.grain_bytecode.specs.ChainStream.{Stream, Records, IsSlotDue, IsSlotUnreadable, Trails, StreamFlaw, site_of, sites_of, as_stream_error}

-- this many numbers, and what is left behind them
abbrev Read : Type 0
Read = Result (List ℕ × List ℕ) NumberError

abbrev in_front : ℕ → Read → Read
in_front n (Ok (ns, rest)) = Ok (n ∷ ns, rest)
in_front n (Err error) = Err error

abbrev then_read : {bytes : List ℕ} → Reading bytes → (List ℕ → Read) → Read
then_read (Number n rest begins) more = in_front n (more rest)
then_read (Flaw error flaw) more = Err error

abbrev read_many : ℕ → List ℕ → Read
read_many zero bytes = Ok ([], bytes)
read_many (suc k) bytes = then_read (reading bytes) (read_many k)

then_number : (bytes : List ℕ) (r : Reading bytes) (n : ℕ) (rest : List ℕ) (more : List ℕ → Read) → BeginsNumbers bytes (n ∷ []) rest → then_read r more ≡ in_front n (more rest)
then_number bytes (Number m left begins) n rest more read = let once = begins_once bytes m n left rest begins read in ap (λ k. in_front k (more left)) once.0 ∙ ap (λ xs. in_front n (more xs)) once.1
then_number bytes (Flaw error flaw) n rest more read = absurd (begins_flawless bytes n rest error read flaw)

then_flaw : (bytes : List ℕ) (r : Reading bytes) (error : NumberError) (more : List ℕ → Read) → U32Flaw bytes error → then_read r more ≡ Err error
then_flaw bytes (Number m left begins) error more flaw = absurd (begins_flawless bytes m left error begins flaw)
then_flaw bytes (Flaw other here) error more flaw = ap (λ e. Err e) (one_u32_flaw bytes other error here flaw)

first_of : (bytes : List ℕ) (n : ℕ) (ns rest : List ℕ) (begins : BeginsNumbers bytes (n ∷ ns) rest) → BeginsNumbers bytes (n ∷ []) begins.1
first_of bytes n ns rest begins = (begins.0, begins.1, begins.2, begins.3, refl)

-- numbers that stand there are read
many_read : (bytes ns rest : List ℕ) → BeginsNumbers bytes ns rest → read_many (length ns) bytes ≡ Ok (ns, rest)
many_read bytes [] rest begins = ap (λ xs. Ok ([], xs)) begins
many_read bytes (n ∷ ns) rest begins =
    then_number bytes (reading bytes) n begins.1 (read_many (length ns)) (first_of bytes n ns rest begins) ∙ ap (in_front n) (many_read begins.1 ns rest begins.4)

-- where one can't be read, no more are
many_unread : (k : ℕ) (bytes ns left : List ℕ) (error : NumberError) → BeginsNumbers bytes ns left → length ns < k → U32Flaw left error → read_many k bytes ≡ Err error
many_unread zero bytes ns left error begins few flaw = absurd (omega arith)
many_unread (suc k) bytes [] left error begins few flaw = then_flaw bytes (reading bytes) error (read_many k) (subst (λ xs. U32Flaw xs error) (sym begins) flaw)
many_unread (suc k) bytes (n ∷ ns) left error begins few flaw =
    then_number bytes (reading bytes) n begins.1 (read_many k) (first_of bytes n ns left begins) ∙ ap (in_front n) (many_unread k begins.1 ns left error begins.4 (omega arith) flaw)

-- what the bytes are read as: the sites of a stream, or its flaw
abbrev Answer : Type 0
Answer = Result (List (Option Site)) StreamError

abbrev ended : Read → Answer
ended (Ok (numbers, [])) = Ok (sites_of numbers)
ended (Ok (numbers, byte ∷ bytes)) = Err (TrailingBytes (length (byte ∷ bytes)))
ended (Err error) = Err (as_stream_error error)

abbrev counted : Read → Answer
counted (Ok (count ∷ [], rest)) = ended (read_many (2 * count) rest)
counted (Ok (numbers, rest)) = Err OutOfMemory
counted (Err error) = Err (as_stream_error error)

abbrev answer : List ℕ → Answer
answer bytes = counted (read_many 1 bytes)

count_read : (bytes : List ℕ) (count : ℕ) (after : List ℕ) → BeginsNumbers bytes (count ∷ []) after → answer bytes ≡ ended (read_many (2 * count) after)
count_read bytes count after begins = ap counted (many_read bytes (count ∷ []) after begins)

behind_count : (bytes : List ℕ) (count : ℕ) (ns rest : List ℕ) (begins : BeginsNumbers bytes (count ∷ ns) rest) → length ns ≡ 2 * count → answer bytes ≡ ended (Ok (ns, rest))
behind_count bytes count ns rest begins long =
    count_read bytes count begins.1 (first_of bytes count ns rest begins) ∙ ap ended (ap (λ k. read_many k begins.1) (sym long) ∙ many_read begins.1 ns rest begins.4)

pub stream_answer : (bytes : List ℕ) (slots : List (Option Site)) → Stream bytes slots → answer bytes ≡ Ok slots
stream_answer bytes slots is = behind_count bytes (length slots) is.numbers [] is.spelled is.paired ∙ ap (λ xs. Ok xs) (sym is.sites)

unreadable_answer : (bytes : List ℕ) (error : NumberError) → IsSlotUnreadable bytes error → answer bytes ≡ Err (as_stream_error error)
unreadable_answer bytes error is = of_numbers is.numbers is.read is.unfinished where
  of_numbers : (numbers : List ℕ) → BeginsNumbers bytes numbers is.left → IsSlotDue numbers → answer bytes ≡ Err (as_stream_error error)
  of_numbers [] read unfinished = ap counted (many_unread 1 bytes [] is.left error read (omega arith) is.flaw)
  of_numbers (count ∷ numbers) read unfinished =
      count_read bytes count read.1 (first_of bytes count numbers is.left read) ∙ ap ended (many_unread (2 * count) read.1 numbers is.left error read.4 unfinished is.flaw)

trailing_answer : (bytes : List ℕ) (count : ℕ) → Trails bytes count → answer bytes ≡ Err (TrailingBytes count)
trailing_answer bytes count trails =
    let longer = begins_longer trails.stream (length trails.slots ∷ trails.is.numbers) [] trails.more trails.is.spelled in
    ap answer trails.parts ∙ behind_count (trails.stream ++ trails.more) (length trails.slots) trails.is.numbers trails.more longer trails.is.paired ∙ some trails.more trails.long where
      some : (more : List ℕ) → length more ≡ count → ended (Ok (trails.is.numbers, more)) ≡ Err (TrailingBytes count)
      some [] long = let positive = trails.some in absurd (omega arith)
      some (byte ∷ bytes) long = ap (λ n. Err (TrailingBytes n)) long

pub flaw_answer : (bytes : List ℕ) (error : StreamError) → StreamFlaw bytes error → answer bytes ≡ Err error
flaw_answer bytes Truncated flaw = unreadable_answer bytes number_error.Truncated flaw
flaw_answer bytes Overflow flaw = unreadable_answer bytes number_error.Overflow flaw
flaw_answer bytes (TrailingBytes count) flaw = trailing_answer bytes count flaw
flaw_answer bytes OutOfMemory flaw = absurd flaw

-- an error of a number is one of the stream
pub unreadable : (bytes : List ℕ) (error : NumberError) → IsSlotUnreadable bytes error → StreamFlaw bytes (as_stream_error error)
unreadable bytes number_error.Truncated is = is
unreadable bytes number_error.Overflow is = is

-- Whole numbers of slots were read, and so the bytes up to the cursor hold the count and them.
pub record Slots (stream : List ℕ) (count turns at : ℕ) (sites : List (Option Site)) : Type 0 where
  pub numbers : List ℕ
  pub read : BeginsNumbers stream (count ∷ numbers) (drop at stream)
  pub paired : length numbers ≡ 2 * turns
  pub are : sites ≡ sites_of numbers
  pub inside : at ≤ length stream

pub slots_none : (stream : List ℕ) (count at : ℕ) → BeginsNumbers stream (count ∷ []) (drop at stream) → at ≤ length stream → Slots stream count 0 at []
slots_none stream count at begins inside = record { numbers = []; read = begins; paired = refl; are = refl; inside = inside }

sites_of-push : (numbers : List ℕ) (k line column : ℕ) → length numbers ≡ 2 * k → sites_of (numbers ++ line ∷ column ∷ []) ≡ sites_of numbers ++ site_of line column ∷ []
sites_of-push [] k line column paired = refl
sites_of-push (a ∷ []) zero line column paired = absurd (omega (arith, paired))
sites_of-push (a ∷ []) (suc k) line column paired = absurd (omega (arith, paired))
sites_of-push (a ∷ b ∷ numbers) zero line column paired = absurd (omega (arith, paired))
sites_of-push (a ∷ b ∷ numbers) (suc k) line column paired = ap (λ sites. site_of a b ∷ sites) (sites_of-push numbers k line column (omega (arith, paired)))

pub slots_more : (stream : List ℕ) (count turns at after line column : ℕ) (sites : List (Option Site)) → Slots stream count turns at sites
    → BeginsNumbers (drop at stream) (line ∷ column ∷ []) (drop after stream) → after ≤ length stream
    → Slots stream count (turns + 1) after (sites ++ site_of line column ∷ [])
slots_more stream count turns at after line column sites slots read inside = record {
  numbers = slots.numbers ++ line ∷ column ∷ [];
  read = begins-append stream (count ∷ slots.numbers) (line ∷ column ∷ []) (drop at stream) (drop after stream) slots.read read;
  paired = omega (arith, length-append slots.numbers (line ∷ column ∷ []), slots.paired);
  are = ap (λ xs. xs ++ site_of line column ∷ []) slots.are ∙ sym (sites_of-push slots.numbers turns line column slots.paired);
  inside = inside;
}

-- a slot can't be read
pub slots_broken : (stream : List ℕ) (count turns at : ℕ) (sites : List (Option Site)) (error : NumberError) → Slots stream count turns at sites → turns < count
    → (numbers left : List ℕ) × BeginsNumbers (drop at stream) numbers left × (length numbers < 2) × U32Flaw left error → IsSlotUnreadable stream error
slots_broken stream count turns at sites error slots more (numbers, left, read, few, flaw) = record {
  numbers = count ∷ slots.numbers ++ numbers;
  left = left;
  read = begins-append stream (count ∷ slots.numbers) numbers (drop at stream) left slots.read read;
  unfinished = omega (arith, length-append slots.numbers numbers, slots.paired, few, more);
  flaw = flaw;
}

-- all slots were read, and no byte is left
pub slots_all : (stream : List ℕ) (count at : ℕ) (sites : List (Option Site)) → Slots stream count count at sites → length stream - at ≡ 0 → Stream stream sites
slots_all stream count at sites slots none =
    let end : drop at stream ≡ [] = nil_from_length _ (omega (arith, length-drop at stream)) in
    let many : count ≡ length sites = sym (ap length slots.are ∙ length-sites_of slots.numbers count slots.paired) in
    record {
      numbers = slots.numbers;
      spelled = subst (λ n. BeginsNumbers stream (n ∷ slots.numbers) []) many (subst (BeginsNumbers stream (count ∷ slots.numbers)) end slots.read);
      paired = slots.paired ∙ ap (λ n. 2 * n) many;
      sites = slots.are;
    } where
      length-sites_of : (numbers : List ℕ) (k : ℕ) → length numbers ≡ 2 * k → length (sites_of numbers) ≡ k
      length-sites_of [] k paired = omega (arith, paired)
      length-sites_of (a ∷ []) k paired = absurd (omega (arith, paired))
      length-sites_of (a ∷ b ∷ numbers) zero paired = absurd (omega (arith, paired))
      length-sites_of (a ∷ b ∷ numbers) (suc k) paired = ap suc (length-sites_of numbers k (omega (arith, paired)))

-- all slots were read, and bytes are left
pub slots_trail : (stream : List ℕ) (count at : ℕ) (sites : List (Option Site)) → Slots stream count count at sites → 0 < length stream - at → Trails stream (length stream - at)
slots_trail stream count at sites slots some =
    let front = begins_front stream (count ∷ slots.numbers) (drop at stream) slots.read in
    record {
      stream = front.0;
      more = drop at stream;
      slots = sites;
      parts = front.1;
      is = slots_all front.0 count (length front.0) sites (record {
        numbers = slots.numbers;
        read = subst (BeginsNumbers front.0 (count ∷ slots.numbers)) (sym (drop-length front.0)) front.2;
        paired = slots.paired;
        are = slots.are;
        inside = omega arith;
      }) (omega arith);
      some = some;
      long = length-drop at stream;
    }

-- What is known of an answer by what the bytes are.
abbrev pub Says : List ℕ → Result (Unit {0}) StreamError → Type 0
Says bytes (Ok t) = (slots : List (Option Site)) × Stream bytes slots
Says bytes (Err error) = StreamFlaw bytes error

pub says_ok : (bytes : List ℕ) (r : Result (Unit {0}) StreamError) → Says bytes r → IsOk r ↔ ((slots : List (Option Site)) × Stream bytes slots)
says_ok bytes (Ok t) says = (λ ok. says, λ stream. refl)
says_ok bytes (Err error) says = (λ ok. absurd cc, λ stream. let e = sym (stream_answer bytes stream.0 stream.1) ∙ flaw_answer bytes error says in absurd cc)

pub says_err : (bytes : List ℕ) (r : Result (Unit {0}) StreamError) → Says bytes r → (error : StreamError) → (r ≡ Err error) ↔ StreamFlaw bytes error
says_err bytes (Ok t) says error = (λ e. absurd cc, λ flaw. let e = sym (stream_answer bytes says.0 says.1) ∙ flaw_answer bytes error flaw in absurd cc)
says_err bytes (Err other) says error = (
  λ e. let same : other ≡ error = cc in subst (StreamFlaw bytes) same says,
  λ flaw. let e = sym (flaw_answer bytes other says) ∙ flaw_answer bytes error flaw in let same : other ≡ error = cc in ap (λ x. Err x) same,
)

pub no_site : (line column : ℕ) → line ≡ 0 → None ≡ site_of line column
no_site line column none = sym (ap (λ n. site_of n column) none)

pub some_site : (line column : ℕ) → (line ≡ 0 → ⊥) → Some (record { line = line; column = column }) ≡ site_of line column
some_site line column some = let other : eqb line 0 ≡ false = ne_eqb line 0 some in rw other refl

-- an answer that hands an error on says it
pub says_error : (bytes : List ℕ) (r : Result (Unit {0}) StreamError) (error : StreamError) → (returned : StreamError) × (r ≡ Err returned) × (returned ≡ error) → StreamFlaw bytes error → Says bytes r
says_error bytes r error (returned, is, same) flaw = subst (Says bytes) (sym (is ∙ ap (λ e. Err e) same)) flaw

-- the count can't be read
pub uncounted : (stream : List ℕ) (error : NumberError) → U32Flaw stream error → IsSlotUnreadable stream error
uncounted stream error flaw = record { numbers = []; left = stream; read = refl; unfinished = tt; flaw = flaw }

-- a stream has no flaw
pub flawless : (bytes : List ℕ) (error : StreamError) → (slots : List (Option Site)) × Stream bytes slots → StreamFlaw bytes error → ⊥
flawless bytes error stream flaw = let e = sym (stream_answer bytes stream.0 stream.1) ∙ flaw_answer bytes error flaw in cc

-- no byte of a stream is left behind all of its slots
pub slots_whole : (stream : List ℕ) (count at : ℕ) (sites : List (Option Site)) → Slots stream count count at sites → (slots : List (Option Site)) × Stream stream slots → Stream stream sites
slots_whole stream count at sites slots is = slots_all stream count at sites slots (none_left (length stream - at) refl) where
  none_left : (left : ℕ) → length stream - at ≡ left → length stream - at ≡ 0
  none_left zero same = same
  none_left (suc left) same = absurd (flawless stream (TrailingBytes (length stream - at)) is (slots_trail stream count at sites slots (omega (arith, same))))

-- a stream has one list of slots
pub one_stream : (bytes : List ℕ) (slots other : List (Option Site)) → Stream bytes slots → Stream bytes other → slots ≡ other
one_stream bytes slots other a b = let e = sym (stream_answer bytes slots a) ∙ stream_answer bytes other b in cc

-- Numbers that can't be read, where a slot's would have to be.
pub unrecorded : (stream : List ℕ) (numbers left : List ℕ) (error : NumberError) (slot : ℕ) (site : Site) → BeginsNumbers stream numbers left → length numbers < 2 * slot + 3 → U32Flaw left error
    → Records stream slot site → ⊥
unrecorded stream numbers left error slot site read few flaw records =
    let all = records.count ∷ records.before ++ site.line ∷ site.column ∷ [] in
    let long : length all ≡ 2 * slot + 3 = omega (arith, length-append records.before (site.line ∷ site.column ∷ []), records.place) in
    let e = sym (many_unread (length all) stream numbers left error read (omega (arith, long)) flaw) ∙ many_read stream all records.rest records.read in
    absurd cc

numbers_of : (ns ms rest more : List ℕ) → ◌≡◌ {A = Read} (Ok (ns, rest)) (Ok (ms, more)) → ns ≡ ms
numbers_of ns ms rest more e = let same : ◌≡◌ {A = List ℕ × List ℕ} (ns, rest) (ms, more) = cc in ap (λ (p : List ℕ × List ℕ). p.0) same

behind_first : (m n : ℕ) (ms ns : List ℕ) → m ∷ ms ≡ n ∷ ns → ms ≡ ns
behind_first m n ms ns e = cc

-- the slots before it were read
pub recorded : (stream : List ℕ) (count slot at after line column : ℕ) (sites : List (Option Site)) → Slots stream count slot at sites → slot < count
    → BeginsNumbers (drop at stream) (line ∷ column ∷ []) (drop after stream)
    → (site : Site) → (site_of line column ≡ Some site) ↔ Records stream slot site
recorded stream count slot at after line column sites slots inside read site = (there, back) where
  all : BeginsNumbers stream (count ∷ slots.numbers ++ line ∷ column ∷ []) (drop after stream)
  all = begins-append stream (count ∷ slots.numbers) (line ∷ column ∷ []) (drop at stream) (drop after stream) slots.read read

  there : site_of line column ≡ Some site → Records stream slot site
  there is = elim (cases_eq line 0) [
    | inl none ↦ let e = no_site line column none ∙ is in absurd cc
    | inr some ↦ let same : record { line = line; column = column } ≡ site = let e = some_site line column some ∙ is in cc in
        subst (Records stream slot) same (record { count = count; before = slots.numbers; rest = drop after stream; read = all; place = slots.paired; counted = inside; known = omega arith })
  ]

  back : Records stream slot site → site_of line column ≡ Some site
  back records =
      let numbers = records.count ∷ records.before ++ site.line ∷ site.column ∷ [] in
      let long : length (count ∷ slots.numbers ++ line ∷ column ∷ []) ≡ length numbers =
      omega (arith, length-append slots.numbers (line ∷ column ∷ []), length-append records.before (site.line ∷ site.column ∷ []), slots.paired, records.place) in
      let e = sym (many_read stream (count ∷ slots.numbers ++ line ∷ column ∷ []) (drop after stream) all) ∙ ap (λ k. read_many k stream) long ∙ many_read stream numbers records.rest records.read in
      let same : slots.numbers ++ line ∷ column ∷ [] ≡ records.before ++ site.line ∷ site.column ∷ [] = behind_first _ _ _ _ (numbers_of _ _ _ _ e) in
      let last : line ∷ column ∷ [] ≡ site.line ∷ site.column ∷ [] =
      sym (drop_at slots.numbers (line ∷ column ∷ []) (2 * slot) slots.paired) ∙ ap (drop (2 * slot)) same ∙ drop_at records.before (site.line ∷ site.column ∷ []) (2 * slot) records.place in
      let line_is : line ≡ site.line = cc in
      let column_is : column ≡ site.column = cc in
      ap (λ n. site_of n column) line_is ∙ ap (site_of site.line) column_is ∙ sym (some_site site.line site.column (λ none. let known = records.known in absurd (omega arith)))

pub past_count : (stream : List ℕ) (count slot : ℕ) (rest : List ℕ) (site : Site) → BeginsNumbers stream (count ∷ []) rest → count ≤ slot → Records stream slot site → ⊥
past_count stream count slot rest site read past records =
    let first = first_of stream records.count (records.before ++ site.line ∷ site.column ∷ []) records.rest records.read in
    let once = begins_once stream count records.count rest _ read first in
    let counted = records.counted in
    absurd (omega (arith, once.0))

-- a slot at or before it can't be read
pub broken_before : (stream : List ℕ) (count turns slot at : ℕ) (sites : List (Option Site)) (error : NumberError) (site : Site) → Slots stream count turns at sites → turns ≤ slot
    → (numbers left : List ℕ) × BeginsNumbers (drop at stream) numbers left × (length numbers < 2) × U32Flaw left error → Records stream slot site → ⊥
broken_before stream count turns slot at sites error site slots before (numbers, left, read, few, flaw) =
    unrecorded stream (count ∷ slots.numbers ++ numbers) left error slot site (begins-append stream (count ∷ slots.numbers) numbers (drop at stream) left slots.read read)
    (omega (arith, length-append slots.numbers numbers, slots.paired, few)) flaw

-- nothing is answered where nothing is recorded
pub nothing_recorded : (stream : List ℕ) (slot : ℕ) (r : Option Site) → r ≡ None → ((site : Site) → Records stream slot site → ⊥) → (site : Site) → (r ≡ Some site) ↔ Records stream slot site
nothing_recorded stream slot r none never site = (λ e. absurd cc, λ records. absurd (never site records))
