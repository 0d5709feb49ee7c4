-- The entries that stand in bytes: there is one way to read them, and a longest list.
use Rattle.std.proofs.Common.{◌≡◌, ℕ, zero, suc, ◌+◌, ◌^◌, ◌<◌, ◌≤◌, ◌⊎◌, inl, inr, List, [], ◌∷◌, length, None, find, nat_eq, refl, sym, ap, subst, ◌∙◌, arith}
use Rattle.std.specs.Iterator.{Drains}
use Rattle.std.proofs.lemmas.Bool.{cases_lt, ne_eqb}
use Rattle.grain_base.specs.declared.varint.Error.{Error}
use Rattle.grain_base.specs.Varint.{BeginsNumbers, U32Flaw}
use Rattle.grain_base.specs.EntriesLeft.{EntriesLeft}
use Rattle.grain_base.specs.AddressTable.{Entry, IsNext, NoneNext, AreEntries, EntrySteps, Table, Holds, LongestFront}
use Rattle.grain_base.proofs.Numbers.{AreThree, three, begins-append, begins_once, begins_flawless, Reading, Number, Flaw, reading}

-- an entry of its three numbers
entry_of : ℕ → ℕ → ℕ → Entry
entry_of address line column = (address, record { line = line; column = column })

-- numbers behind the same bytes are one
once_behind : (m n : ℕ) (bytes other rest more : List ℕ) → bytes ≡ other → BeginsNumbers bytes (m ∷ []) rest → BeginsNumbers other (n ∷ []) more → (m ≡ n) × (rest ≡ more)
once_behind m n bytes other rest more same first second =
    begins_once bytes m n rest more first (subst (λ (xs : List ℕ). BeginsNumbers xs (n ∷ []) more) (sym same) second)

-- the numbers of the next entry
parts : (before : ℕ) (bytes : List ℕ) (entry : Entry) (rest : List ℕ) (next : IsNext before bytes entry rest) → AreThree bytes next.delta entry.1.line entry.1.column rest
parts before bytes entry rest next = three bytes next.delta entry.1.line entry.1.column rest next.spelled

-- the next entry is one, and so is what follows it
pub next_once : (before : ℕ) (bytes : List ℕ) (a b : Entry) (rest more : List ℕ) → IsNext before bytes a rest → IsNext before bytes b more → (a ≡ b) × (rest ≡ more)
unfolding entry_of
next_once before bytes a b rest more first second =
    let f = parts before bytes a rest first in
    let s = parts before bytes b more second in
    let delta = begins_once bytes first.delta second.delta f.after s.after f.first s.first in
    let line = once_behind a.1.line b.1.line f.after s.after f.mid s.mid delta.1 f.second s.second in
    let column = once_behind a.1.column b.1.column f.mid s.mid rest more line.1 f.third s.third in
    let address : a.0 ≡ b.0 = omega (arith, first.address, second.address, delta.0) in
    (ap (λ (x : ℕ). entry_of x a.1.line a.1.column) address ∙ ap (λ (x : ℕ). entry_of b.0 x a.1.column) line.0 ∙ ap (λ (x : ℕ). entry_of b.0 b.1.line x) column.0, column.1)

pub no_delta : (before : ℕ) (bytes : List ℕ) (error : Error) → U32Flaw bytes error → NoneNext before bytes
no_delta before bytes error flaw entry rest next =
    let p = parts before bytes entry rest next in
    begins_flawless bytes next.delta p.after error p.first flaw

pub address_large : (before delta : ℕ) (bytes after : List ℕ) → BeginsNumbers bytes (delta ∷ []) after → 2 ^ 32 ≤ before + delta → NoneNext before bytes
address_large before delta bytes after begins large entry rest next =
    let p = parts before bytes entry rest next in
    absurd (omega (arith, next.address, next.fits, (begins_once bytes next.delta delta p.after after p.first begins).0))

pub no_line : (before delta : ℕ) (bytes after : List ℕ) (error : Error) → BeginsNumbers bytes (delta ∷ []) after → U32Flaw after error → NoneNext before bytes
no_line before delta bytes after error begins flaw entry rest next =
    let p = parts before bytes entry rest next in
    let same = begins_once bytes next.delta delta p.after after p.first begins in
    begins_flawless p.after entry.1.line p.mid error p.second (subst (λ (xs : List ℕ). U32Flaw xs error) (sym same.1) flaw)

pub no_column : (before delta line : ℕ) (bytes after mid : List ℕ) (error : Error) → BeginsNumbers bytes (delta ∷ []) after → BeginsNumbers after (line ∷ []) mid → U32Flaw mid error → NoneNext before bytes
no_column before delta line bytes after mid error begins second flaw entry rest next =
    let p = parts before bytes entry rest next in
    let same = begins_once bytes next.delta delta p.after after p.first begins in
    let then = once_behind entry.1.line line p.after after p.mid mid same.1 p.second second in
    begins_flawless p.mid entry.1.column rest error p.third (subst (λ (xs : List ℕ). U32Flaw xs error) (sym then.1) flaw)

pub is_next : (before delta line column : ℕ) (bytes after mid rest : List ℕ) → BeginsNumbers bytes (delta ∷ []) after → BeginsNumbers after (line ∷ []) mid → BeginsNumbers mid (column ∷ []) rest → before + delta < 2 ^ 32
    → IsNext before bytes (before + delta, record { line = line; column = column }) rest
is_next before delta line column bytes after mid rest first second third fits = record {
  delta = delta;
  spelled = begins-append bytes (delta ∷ []) (line ∷ column ∷ []) after rest first (begins-append after (line ∷ []) (column ∷ []) mid rest second third);
  address = refl;
  fits = fits;
}

-- Either an entry stands at the front of the bytes, or none does.
pub data Here (before : ℕ) (bytes : List ℕ) : Type 0 where
  There : (entry : Entry) (rest : List ℕ) → IsNext before bytes entry rest → Here before bytes
  Nowhere : NoneNext before bytes → Here before bytes

pub here : (before : ℕ) (bytes : List ℕ) → Here before bytes
here before bytes = elim (reading bytes) [
  | Flaw e flaw ↦ Nowhere (no_delta before bytes e flaw)
  | Number d after first ↦ elim (cases_lt (before + d) (2 ^ 32)) [
    | inr large ↦ Nowhere (address_large before d bytes after first large)
    | inl fits ↦ elim (reading after) [
      | Flaw e flaw ↦ Nowhere (no_line before d bytes after e first flaw)
      | Number l mid second ↦ elim (reading mid) [
        | Flaw e flaw ↦ Nowhere (no_column before d l bytes after mid e first second flaw)
        | Number c rest third ↦ There (before + d, record { line = l; column = c }) rest (is_next before d l c bytes after mid rest first second third fits)
      ]
    ]
  ]
]

-- the entry that stands there and more, or nothing
joined : {before : ℕ} {bytes : List ℕ} → Here before bytes → (Entry → List ℕ → List Entry) → List Entry
joined (There entry rest next) more = entry ∷ more entry rest
joined (Nowhere none) more = []

-- the longest list of entries at the front of the bytes, no longer than the count
pub entries_from : ℕ → ℕ → List ℕ → List Entry
entries_from zero before bytes = []
entries_from (suc count) before bytes = joined (here before bytes) (λ entry rest. entries_from count entry.0 rest)

pub entries_more : (count before : ℕ) (bytes : List ℕ) (entry : Entry) (rest : List ℕ) → IsNext before bytes entry rest → entries_from (suc count) before bytes ≡ entry ∷ entries_from count entry.0 rest
unfolding entries_from joined
entries_more count before bytes entry rest next = by_case (here before bytes)
  where
    by_case : (h : Here before bytes) → joined h (λ e r. entries_from count e.0 r) ≡ entry ∷ entries_from count entry.0 rest
    by_case (There e r found) =
        let one = next_once before bytes e entry r rest found next in
        ap (λ (x : Entry). x ∷ entries_from count x.0 r) one.0 ∙ ap (λ (xs : List ℕ). entry ∷ entries_from count entry.0 xs) one.1
    by_case (Nowhere none) = absurd (none entry rest next)

pub entries_none : (count before : ℕ) (bytes : List ℕ) → NoneNext before bytes → entries_from count before bytes ≡ []
unfolding entries_from joined
entries_none zero before bytes none = refl
entries_none (suc count) before bytes none = by_case (here before bytes)
  where
    by_case : (h : Here before bytes) → joined h (λ e r. entries_from count e.0 r) ≡ []
    by_case (There e r found) = absurd (none e r found)
    by_case (Nowhere other) = refl

pub entries_over : (count before : ℕ) (bytes : List ℕ) → count ≡ 0 → entries_from count before bytes ≡ []
unfolding entries_from
entries_over zero before bytes over = refl
entries_over (suc count) before bytes over = absurd (omega arith)

pub entries_are : (count before : ℕ) (bytes : List ℕ) → (rest : List ℕ) × AreEntries before bytes (entries_from count before bytes) rest × (length (entries_from count before bytes) ≤ count)
unfolding entries_from joined
entries_are zero before bytes = (bytes, refl, omega arith)
entries_are (suc count) before bytes =
    let more = entries_are count in
    elim (here before bytes) as (λ h. (rest : List ℕ) × AreEntries before bytes (joined h (λ e r. entries_from count e.0 r)) rest × (length (joined h (λ e r. entries_from count e.0 r)) ≤ suc count)) [
      | There e r found ↦ ((more e.0 r).0, (r, found, (more e.0 r).1), omega (arith, (more e.0 r).2))
      | Nowhere none ↦ (bytes, refl, omega arith)
    ]

pub entries_longest : (count before : ℕ) (bytes : List ℕ) (list : List Entry) (rest : List ℕ) → AreEntries before bytes list rest → length list ≤ count → length list ≤ length (entries_from count before bytes)
entries_longest count before bytes [] rest are short = omega arith
entries_longest zero before bytes (entry ∷ list) rest are short = absurd (omega arith)
entries_longest (suc count) before bytes (entry ∷ list) rest are short =
    let more = entries_longest count entry.0 are.0 list rest are.2 (omega arith) in
    rw (entries_more count before bytes entry are.0 are.1) (omega (arith, more))

-- they are what is given where they are read one by one
pub entries_drain : (count before : ℕ) (bytes : List ℕ) → Drains EntrySteps (record { count = count; before = before; bytes = bytes }) (entries_from count before bytes)
unfolding entries_from joined
entries_drain zero before bytes =
    let s : EntriesLeft = record { count = 0; before = before; bytes = bytes } in
    (s, (s, refl, (inl refl, refl)))
entries_drain (suc count) before bytes =
    let s : EntriesLeft = record { count = suc count; before = before; bytes = bytes } in
    let more = entries_drain count in
    let less : suc count ≡ count + 1 = omega arith in
    elim (here before bytes) as (λ h. Drains EntrySteps s (joined h (λ e r. entries_from count e.0 r))) [
      | There e r found ↦ ((more e.0 r).0, ((more e.0 r).1.0, (record { count = count; before = e.0; bytes = r }, (less, found, refl), (more e.0 r).1.1), (more e.0 r).1.2))
      | Nowhere none ↦ (s, (s, refl, (inr none, refl)))
    ]

-- as many entries are the same
pub entries_same : (before : ℕ) (bytes : List ℕ) (a b : List Entry) (rest more : List ℕ) → AreEntries before bytes a rest → AreEntries before bytes b more → length a ≡ length b → a ≡ b
entries_same before bytes [] [] rest more first second long = refl
entries_same before bytes [] (e ∷ b) rest more first second long = absurd (omega arith)
entries_same before bytes (e ∷ a) [] rest more first second long = absurd (omega arith)
entries_same before bytes (d ∷ a) (e ∷ b) rest more first second long =
    let one = next_once before bytes d e first.0 second.0 first.1 second.1 in
    let others = entries_same d.0 first.0 a b rest more first.2 (subst (λ (x : Entry). AreEntries x.0 first.0 b more) (sym one.0) (subst (λ (xs : List ℕ). AreEntries e.0 xs b more) (sym one.1) second.2)) (omega arith) in
    ap (λ (x : Entry). x ∷ a) one.0 ∙ ap (λ (xs : List Entry). e ∷ xs) others

-- no entry goes back behind the one before it
pub none_below : (count before : ℕ) (bytes : List ℕ) (address : ℕ) → address < before → find (λ entry. nat_eq entry.0 address) (entries_from count before bytes) ≡ None
unfolding entries_from joined
none_below zero before bytes address below = refl
none_below (suc count) before bytes address below =
    let more = none_below count in
    elim (here before bytes) as (λ h. find (λ entry. nat_eq entry.0 address) (joined h (λ e r. entries_from count e.0 r)) ≡ None) [
      | There e r found ↦ rw (ne_eqb e.0 address (λ same. absurd (omega (arith, found.address)))) (more e.0 r address (omega (arith, found.address)))
      | Nowhere none ↦ refl
    ]

-- the longest list that a count and the bytes behind it hold
counted : {bytes : List ℕ} → Reading bytes → List Entry
counted (Number count after begins) = entries_from count 0 after
counted (Flaw error flaw) = []

pub front : List ℕ → List Entry
front bytes = counted (reading bytes)

pub front_counted : (bytes : List ℕ) (count : ℕ) (after : List ℕ) → BeginsNumbers bytes (count ∷ []) after → front bytes ≡ entries_from count 0 after
unfolding front counted
front_counted bytes count after begins = by_case (reading bytes)
  where
    by_case : (r : Reading bytes) → counted r ≡ entries_from count 0 after
    by_case (Number n rest found) = let one = begins_once bytes n count rest after found begins in ap (λ (x : ℕ). entries_from x 0 rest) one.0 ∙ ap (λ (xs : List ℕ). entries_from count 0 xs) one.1
    by_case (Flaw error flaw) = absurd (begins_flawless bytes count after error begins flaw)

pub front_uncounted : (bytes : List ℕ) (error : Error) → U32Flaw bytes error → front bytes ≡ []
unfolding front counted
front_uncounted bytes error flaw = by_case (reading bytes)
  where
    by_case : (r : Reading bytes) → counted r ≡ []
    by_case (Number n rest found) = absurd (begins_flawless bytes n rest error found flaw)
    by_case (Flaw e other) = refl

-- what the bytes hold is no longer than that
front_longest : (bytes : List ℕ) (other : List Entry) → Holds bytes other → length other ≤ length (front bytes)
front_longest bytes other held = rw (front_counted bytes held.count held.after held.counted) (entries_longest held.count 0 held.after other held.rest held.entries held.enough)

pub front_is : (bytes : List ℕ) → LongestFront bytes (front bytes)
unfolding front counted
front_is bytes = record { held = by_case (reading bytes); longest = front_longest bytes }
  where
    by_case : (r : Reading bytes) → (counted r ≡ []) ⊎ Holds bytes (counted r)
    by_case (Number n after found) = let are = entries_are n 0 after in inr (record { count = n; after = after; rest = are.0; counted = found; entries = are.1; enough = are.2 })
    by_case (Flaw error flaw) = inl refl

-- there is one front
pub front_once : (bytes : List ℕ) (a b : List Entry) → LongestFront bytes a → LongestFront bytes b → a ≡ b
front_once bytes a b first second = by_case a b first.held second.held first.longest second.longest
  where
    none_longer : (list : List Entry) → length list ≤ 0 → list ≡ []
    none_longer [] short = refl
    none_longer (e ∷ list) short = absurd (omega arith)

    by_case : (a b : List Entry) → (a ≡ []) ⊎ Holds bytes a → (b ≡ []) ⊎ Holds bytes b → ((other : List Entry) → Holds bytes other → length other ≤ length a)
        → ((other : List Entry) → Holds bytes other → length other ≤ length b) → a ≡ b
    by_case a b (inl none) (inl nothing) longest other = none ∙ sym nothing
    by_case a b (inl none) (inr held) longest other = none ∙ sym (none_longer b (omega (arith, longest b held, ap length none)))
    by_case a b (inr held) (inl none) longest other = none_longer a (omega (arith, other a held, ap length none)) ∙ sym none
    by_case a b (inr f) (inr s) longest other =
        let one = begins_once bytes f.count s.count f.after s.after f.counted s.counted in
        entries_same 0 f.after a b f.rest s.rest f.entries (subst (λ (xs : List ℕ). AreEntries 0 xs b s.rest) (sym one.1) s.entries) (omega (arith, longest b s, other a f))

-- a table is its front
pub table_front : (bytes : List ℕ) (list : List Entry) → Table bytes list → LongestFront bytes list
table_front bytes list table = record {
  held = inr (record { count = length list; after = table.after; rest = []; counted = table.counted; entries = table.entries; enough = omega arith });
  longest = λ other held. omega (arith, held.enough, (begins_once bytes held.count (length list) held.after table.after held.counted table.counted).0);
}
