-- What was stripped off a program comes back.
use Rattle.std.proofs.Common.{◌≡◌, ◌≢◌, ℕ, ◌+◌, ◌-◌, ◌<◌, ◌≤◌, ◌^◌, inl, inr, zero, suc, Bool, true, false, cond, ◌||◌, List, [], ◌∷◌}
use Rattle.std.proofs.Common.{length, map, Option, Some, None, is_some, is_none, unwrap_or, option_map, option_and_then, nat_eq, nat_le, nat_lt, slice_get, refl, sym, ap, subst, ◌∙◌, arith}
use Rattle.std.specs.List.{AllByRecursion, Contains, enumerate_from, filter_map, find, list_all, list_any, range_with_len, sum_by}
use Rattle.std.proofs.lemmas.Bool.{false≢true, cases_eq, cases_lt, eq-eqb, eqb-false, ne_eqb, le-leb, le-ltb}
use Rattle.std.proofs.lemmas.List.{append-nil, drop_all, length-append, length-map, take_all}
use Rattle.std.proofs.lemmas.List.Concat.{flat_map-cons}
use Rattle.std.proofs.lemmas.List.Elements.{All-contains}
use Rattle.std.proofs.lemmas.Option.{none-some, same_Some}
use Rattle.std.proofs.lemmas.List.Sums.{sum_by-cons}
use Rattle.grain_base.specs.AddressTable.{Entry, Table, known, site_at}
use Rattle.grain_base.specs.Place.{place_of}
use Rattle.grain_base.specs.declared.pos.Site.{Site}
use Rattle.grain_base.specs.declared.position.Position.{Position}
use Rattle.grain_pools.specs.Chain.{positions, root_positions, root_shape, shape, step_positions, step_shape, steps_positions}
use Rattle.grain_bytecode.specs.ChainStream.{all_positions, recorded}
use Rattle.grain_pools.specs.declared.chain.Chain.{Chain}
use Rattle.grain_pools.specs.declared.chain.Root.{Root}
use Rattle.grain_pools.specs.declared.chain.Root.TheVariants as roots
use Rattle.grain_pools.specs.declared.chain.Step.{Step}
use Rattle.grain_pools.specs.declared.chain.Step.TheVariants as steps
use Rattle.grain_pools.specs.declared.chain.Tail.{Tail}
use Rattle.grain_bytecode.proofs.ReadAddresses.{one_arrival}
use Rattle.grain_bytecode.proofs.Streams.{one_stream}
use Rattle.grain_bytecode.specs.Positions.{Arrived, IsRead, Place, byte_place, code_site, dense, entries_at_places, entry_of, matched, place_at, site_place, table_places}
use Rattle.grain_code.specs.InstructionTable.{width_of}
use Rattle.grain_code.specs.Split.{BeginsNone, Split}
use Rattle.grain_code.proofs.Instructions.{begins_none_nil}
use Rattle.grain.specs.Program.{Program, places_of}
use Rattle.grain.specs.Sidecars.{Belongs, CanComeBack, DiffersInPositions, IsAttached, IsSidecar, IsStripped, slot_place}
use Rattle.grain.specs.declared.sidecar.Sidecar.{Sidecar}
use Rattle.grain.proofs.AttachedPositions.{none_matched, one_table}
use Rattle.grain_rules.proofs.Splits.{SplitsFrom, in_cons, in_head, in_nil, in_tail, split_splits, width_pos}

-- a place as those of positions are: its line isn't 0, and it fits 16 bits
abbrev IsSmall : Place → Type 0
IsSmall None = Unit {0}
IsSmall (Some place) = (0 < place.0) × (place.0 ≤ 65535) × (place.1 ≤ 65535)

small_place : (position : Position) → IsSmall (place_of position)
small_place position = go (nat_eq position.line 0) refl
  where
    go : (b : Bool) → nat_eq position.line 0 ≡ b → IsSmall (cond b None (Some (position.line, position.column)))
    go true e = tt
    go false e = let a = position.line_fits in let b = position.column_fits in let n : position.line ≢ 0 = eqb-false position.line 0 e in let h : 0 < position.line = omega arith in (h, omega arith, omega arith)

-- the site of a small place stands for it
placed_again : (place : Place) → IsSmall place → option_and_then site_place (option_map (λ p. record { line = p.0; column = p.1 }) place) ≡ place
placed_again None small = refl
placed_again (Some (line, column)) (some, l, c) =
    let a : nat_eq line 0 ≡ false = ne_eqb line 0 (omega arith) in
    let b : nat_lt 65535 line ≡ false = le-ltb 65535 line l in
    let d : nat_lt 65535 column ≡ false = le-ltb 65535 column c in
    rw (a, b, d) refl

pub slot_again : (position : Position) → slot_place (recorded position) ≡ place_of position
slot_again position = placed_again (place_of position) (small_place position)

-- the entries of places, the first of which stands at an address
abbrev entries : ℕ → List Place → List Entry
entries at places = filter_map entry_of (enumerate_from at places)

none_before : (at : ℕ) (places : List Place) (there : ℕ) → there < at → find (λ entry. nat_eq entry.0 there) (entries at places) ≡ None
none_before at [] there l = refl
none_before at (None ∷ places) there l = none_before (at + 1) places there (omega arith)
none_before at (Some place ∷ places) there l =
    let e : nat_eq at there ≡ false = ne_eqb at there (omega arith) in
    rw e (none_before (at + 1) places there (omega arith))

-- the entry of an address is that of its place
entry_found : (at : ℕ) (places : List Place) (i : ℕ) → find (λ entry. nat_eq entry.0 (at + i)) (entries at places) ≡ option_and_then (λ place. entry_of (at + i, place)) (slice_get places i)
entry_found at [] i = refl
entry_found at (None ∷ places) zero = none_before (at + 1) places (at + 0) (omega arith)
entry_found at (Some place ∷ places) zero =
    let e : nat_eq at (at + 0) ≡ true = eq-eqb at (at + 0) (omega arith) in
    let z : at ≡ at + 0 = omega arith in
    rw e (ap (λ a. Some (a, record { line = place.0; column = place.1 })) z)
entry_found at (None ∷ places) (suc i) =
    let z : at + suc i ≡ at + 1 + i = omega arith in
    subst (λ a. find (λ entry. nat_eq entry.0 a) (entries (at + 1) places) ≡ option_and_then (λ p. entry_of (a, p)) (slice_get places i)) (sym z) (entry_found (at + 1) places i)
entry_found at (Some place ∷ places) (suc i) =
    let e : nat_eq at (at + suc i) ≡ false = ne_eqb at (at + suc i) (omega arith) in
    let z : at + suc i ≡ at + 1 + i = omega arith in
    rw e (subst (λ a. find (λ entry. nat_eq entry.0 a) (entries (at + 1) places) ≡ option_and_then (λ p. entry_of (a, p)) (slice_get places i)) (sym z) (entry_found (at + 1) places i))

-- no entry stands before its places, and each has a line
record IsEntry (at : ℕ) (entry : Entry) : Type 0 where
  pub above : at ≤ entry.0
  pub lined : 0 < entry.1.line

entries_are : (at : ℕ) (places : List Place) → AllByRecursion IsSmall places → (entry : Entry) → Contains (entries at places) entry → IsEntry at entry
entries_are at [] small entry c = absurd (in_nil entry c)
entries_are at (None ∷ places) small entry c = let h = entries_are (at + 1) places small.1 entry c in record { above = (let a = h.above in omega arith); lined = h.lined }
entries_are at (Some place ∷ places) small entry c = elim (in_cons (at, record { line = place.0; column = place.1 }) (entries (at + 1) places) entry c) [
  | inl e ↦ subst (IsEntry at) e (record { above = omega arith; lined = small.0.0 })
  | inr k ↦ let h = entries_are (at + 1) places small.1 entry k in record { above = (let a = h.above in omega arith); lined = h.lined }
]

-- each stands behind those before it
abbrev Rise : List Entry → Type 0
Rise [] = Unit {0}
Rise (entry ∷ list) = ((other : Entry) → Contains list other → entry.0 < other.0) × Rise list

entries_rise : (at : ℕ) (places : List Place) → AllByRecursion IsSmall places → Rise (entries at places)
entries_rise at [] small = tt
entries_rise at (None ∷ places) small = entries_rise (at + 1) places small.1
entries_rise at (Some place ∷ places) small =
    ((λ other c. let h = (entries_are (at + 1) places small.1 other c).above in omega arith), entries_rise (at + 1) places small.1)

-- so few stand below an address
entries_few : (at : ℕ) (places : List Place) (n : ℕ) → ((entry : Entry) → Contains (entries at places) entry → entry.0 < n) → length (entries at places) ≤ n - at
entries_few at [] n below = omega arith
entries_few at (None ∷ places) n below = let h = entries_few (at + 1) places n below in omega arith
entries_few at (Some place ∷ places) n below =
    let first : at < n = below (at, record { line = place.0; column = place.1 }) (in_head (at, record { line = place.0; column = place.1 }) (entries (at + 1) places)) in
    let h = entries_few (at + 1) places n (λ entry c. below entry (in_tail (at, record { line = place.0; column = place.1 }) (entries (at + 1) places) entry c)) in
    omega arith

-- how many sites an address has: one or none
abbrev met : List Entry → ℕ → ℕ
met list at = cond (is_some (code_site list at)) 1 0

met_here : (entry : Entry) (list : List Entry) (at : ℕ) → entry.0 ≡ at → 0 < entry.1.line → at < 2 ^ 32 → met (entry ∷ list) at ≡ 1
met_here entry list at e lined small =
    let a : nat_eq entry.0 at ≡ true = eq-eqb entry.0 at e in
    let b : nat_le at 4294967295 ≡ true = le-leb at 4294967295 (omega arith) in
    let d : nat_eq entry.1.line 0 ≡ false = ne_eqb entry.1.line 0 (omega arith) in
    rw (a, b, d) refl

met_skips : (entry : Entry) (list : List Entry) (at : ℕ) → entry.0 ≢ at → met (entry ∷ list) at ≡ met list at
met_skips entry list at ne = let a : nat_eq entry.0 at ≡ false = ne_eqb entry.0 at ne in rw a refl

met_none : (list : List Entry) (at : ℕ) → ((entry : Entry) → Contains list entry → entry.0 ≢ at) → met list at ≡ 0
met_none [] at none = none_here (nat_le at 4294967295)
  where
    none_here : (b : Bool) → cond {A = ℕ} (is_some (cond b (site_at [] at) None)) 1 0 ≡ 0
    none_here true = refl
    none_here false = refl
met_none (entry ∷ list) at none = met_skips entry list at (none entry (in_head entry list)) ∙ met_none list at (λ other c. none other (in_tail entry list other c))

same_sum : (f g : ℕ → ℕ) (xs : List ℕ) → ((x : ℕ) → Contains xs x → f x ≡ g x) → sum_by f xs ≡ sum_by g xs
same_sum f g [] same = refl
same_sum f g (x ∷ xs) same =
    sum_by-cons f x xs
    ∙ (λ i. same x (in_head x xs) i + same_sum f g xs (λ y c. same y (in_tail x xs y c)) i)
    ∙ sym (sum_by-cons g x xs)

start_inside : (code : List ℕ) (at : ℕ) (starts : List ℕ) (a : ℕ) → SplitsFrom code at starts → Contains starts a → a < length code
start_inside code at [] a h c = absurd (in_nil a c)
start_inside code at (x ∷ xs) a (e, l, (op, i, h)) c = elim (in_cons x xs a c) [
  | inl k ↦ let s : at ≡ a = sym e ∙ k in omega arith
  | inr k ↦ start_inside code (at + width_of op) xs a h k
]

starts_above : (code : List ℕ) (at : ℕ) (starts : List ℕ) (a : ℕ) → SplitsFrom code at starts → Contains starts a → at ≤ a
starts_above code at [] a h c = absurd (in_nil a c)
starts_above code at (x ∷ xs) a (e, l, (op, i, h)) c = elim (in_cons x xs a c) [
  | inl k ↦ let s : at ≡ a = sym e ∙ k in omega arith
  | inr k ↦ let s = starts_above code (at + width_of op) xs a h k in omega arith
]

-- each entry that stands at a start is met
all_met : (code : List ℕ) (at : ℕ) (starts : List ℕ) (list : List Entry) → SplitsFrom code at starts → length code < 2 ^ 32 → Rise list
    → ((entry : Entry) → Contains list entry → 0 < entry.1.line) → ((entry : Entry) → Contains list entry → Contains starts entry.0) → sum_by (met list) starts ≡ length list
all_met code at [] [] h short rise lined inside = refl
all_met code at [] (entry ∷ list) h short rise lined inside = absurd (in_nil entry.0 (inside entry (in_head entry list)))
all_met code at (x ∷ xs) [] h short rise lined inside = none_matched (x ∷ xs)
all_met code at (x ∷ xs) (entry ∷ list) (e, l, (op, i, h)) short rise lined inside =
    let wide = width_pos op in
    let later : (y : ℕ) → Contains xs y → x < y = λ y c. let s = starts_above code (at + width_of op) xs y h c in omega arith in
    elim (cases_eq entry.0 x) [
      | inl same ↦
          let rest = all_met code (at + width_of op) xs list h short rise.1 (λ other c. lined other (in_tail entry list other c))
          (λ other c. elim (in_cons x xs other.0 (inside other (in_tail entry list other c))) [
            | inl k ↦ absurd (let r = rise.0 other c in omega arith)
            | inr k ↦ k
          ]) in
          sum_by-cons (met (entry ∷ list)) x xs
          ∙ (λ j. met_here entry list x same (lined entry (in_head entry list)) (omega arith) j + same_sum (met (entry ∷ list)) (met list) xs (λ y c. met_skips entry list y (λ k. let m = later y c in omega arith)) j)
          ∙ ap (λ n. 1 + n) rest ∙ (let z : 1 + length list ≡ suc (length list) = omega arith in z)
      | inr other ↦
          let further : (found : Entry) → Contains (entry ∷ list) found → Contains xs found.0 = λ found c. elim (in_cons x xs found.0 (inside found c)) [
            | inr k ↦ k
            | inl k ↦ absurd (elim (in_cons entry list found c) [
              | inl first ↦ other (ap (λ (f : Entry). f.0) first ∙ sym k)
              | inr next ↦ elim (in_cons x xs entry.0 (inside entry (in_head entry list))) [
                | inl first ↦ other (sym first)
                | inr deep ↦ let a = later entry.0 deep in let b = rise.0 found next in omega arith
              ]
            ])
          ] in
          sum_by-cons (met (entry ∷ list)) x xs
          ∙ ap (λ n. n + sum_by (met (entry ∷ list)) xs) (met_none (entry ∷ list) x (λ found c k. let m = later found.0 (further found c) in omega arith))
          ∙ (let z : 0 + sum_by (met (entry ∷ list)) xs ≡ sum_by (met (entry ∷ list)) xs = omega arith in z)
          ∙ all_met code (at + width_of op) xs (entry ∷ list) h short rise lined further
    ]

-- reading arrives at the starts of code that is whole instructions
split_arrives : (code starts : List ℕ) → Split code starts → Arrived code starts
split_arrives code starts split =
    let past : nat_lt (length code) (length code) ≡ false = le-ltb (length code) (length code) (omega arith) in
    record {
      end = length code;
      starts = starts;
      inside = omega arith;
      front = subst (λ (bytes : List ℕ). Split bytes starts) (sym (take_all (length code) code (omega arith))) split;
      longest = subst BeginsNone (sym (drop_all (length code) code (omega arith))) begins_none_nil;
      addresses = rw past (sym (append-nil starts));
    }

nones : (places : List Place) (i : ℕ) → list_all is_none places ≡ true → unwrap_or (slice_get places i) None ≡ None
nones [] i e = refl
nones (None ∷ places) zero e = refl
nones (None ∷ places) (suc i) e = nones places i e
nones (Some place ∷ places) i e = absurd (false≢true e)

-- stripping places that are none changes no place
dense_at : (places : List Place) (i : ℕ) → place_at (dense places) i ≡ place_at (Some places) i
dense_at places i = go (list_all is_none places) refl
  where
    go : (b : Bool) → list_all is_none places ≡ b → place_at (cond b None (Some places)) i ≡ unwrap_or (slice_get places i) None
    go true e = sym (nones places i e)
    go false e = refl

range_inside : (f : ℕ → Place) (from n i : ℕ) → i < n → unwrap_or (slice_get (map f (range_with_len from n)) i) None ≡ f (from + i)
range_inside f from zero i l = absurd (omega arith)
range_inside f from (suc n) zero l = ap f (let z : from ≡ from + 0 = omega arith in z)
range_inside f from (suc n) (suc i) l = range_inside f (from + 1) n i (omega arith) ∙ ap f (let z : from + 1 + i ≡ from + suc i = omega arith in z)

range_past : (f : ℕ → Place) (from n i : ℕ) → n ≤ i → unwrap_or (slice_get (map f (range_with_len from n)) i) None ≡ None
range_past f from zero i l = refl
range_past f from (suc n) zero l = absurd (omega arith)
range_past f from (suc n) (suc i) l = range_past f (from + 1) n i (omega arith)

either : (b : Bool) → (b || true) ≡ true
either true = refl
either false = refl

among : (at : ℕ) (starts : List ℕ) → Contains starts at → list_any (λ there. nat_eq there at) starts ≡ true
among at [] c = absurd (in_nil at c)
among at (x ∷ xs) c = elim (in_cons x xs at c) [
  | inl e ↦ ap (λ b. b || list_any (λ there. nat_eq there at) xs) (eq-eqb x at e)
  | inr k ↦ ap (λ b. nat_eq x at || b) (among at xs k) ∙ either (nat_eq x at)
]

entry_there : (at : ℕ) (places : List Place) (i : ℕ) (place : ℕ × ℕ) → slice_get places i ≡ Some (Some place) → Contains (entries at places) (at + i, record { line = place.0; column = place.1 })
entry_there at [] i place e = absurd (none-some _ e)
entry_there at (p ∷ places) zero place e =
    let z : at ≡ at + 0 = omega arith in
    subst (λ (q : Place). Contains (entries at (q ∷ places)) (at + 0, record { line = place.0; column = place.1 })) (sym (same_Some _ _ e))
    (subst (λ a. Contains (entries at (Some place ∷ places)) (a, record { line = place.0; column = place.1 })) z (in_head (at, record { line = place.0; column = place.1 }) (entries (at + 1) places)))
entry_there at (None ∷ places) (suc i) place e =
    let z : at + 1 + i ≡ at + suc i = omega arith in
    subst (λ a. Contains (entries (at + 1) places) (a, record { line = place.0; column = place.1 })) z (entry_there (at + 1) places i place e)
entry_there at (Some p ∷ places) (suc i) place e =
    let z : at + 1 + i ≡ at + suc i = omega arith in
    in_tail (at, record { line = p.0; column = p.1 }) (entries (at + 1) places) (at + suc i, record { line = place.0; column = place.1 })
    (subst (λ a. Contains (entries (at + 1) places) (a, record { line = place.0; column = place.1 })) z (entry_there (at + 1) places i place e))

small_there : (places : List Place) (i : ℕ) (place : Place) → AllByRecursion IsSmall places → slice_get places i ≡ Some place → IsSmall place
small_there [] i place small e = absurd (none-some _ e)
small_there (p ∷ places) zero place small e = subst IsSmall (same_Some _ _ e) small.0
small_there (p ∷ places) (suc i) place small e = small_there places i place small.1 e

site_found : (places : List Place) (at : ℕ) (found : Option Place) → slice_get places at ≡ found → at < 2 ^ 32
    → code_site (entries 0 places) at ≡ option_and_then known (option_and_then (λ place. entry_of (at, place)) found)
site_found places at found e small =
    let b : nat_le at 4294967295 ≡ true = le-leb at 4294967295 (omega arith) in
    let z : 0 + at ≡ at = omega arith in
    let f : find (λ entry. nat_eq entry.0 at) (entries 0 places) ≡ option_and_then (λ place. entry_of (at, place)) (slice_get places at) =
    subst (λ a. find (λ entry. nat_eq entry.0 a) (entries 0 places) ≡ option_and_then (λ place. entry_of (a, place)) (slice_get places at)) z (entry_found 0 places at) in
    rw (b, f, e) refl

neither : (b : Bool) → cond {A = Place} b None None ≡ None
neither true = refl
neither false = refl

-- the place of an address is read from the table of the places' entries
pub place_back : (code starts : List ℕ) (places : List Place) (at : ℕ) → SplitsFrom code 0 starts → length code < 2 ^ 32 → AllByRecursion IsSmall places
    → ((entry : Entry) → Contains (entries 0 places) entry → Contains starts entry.0) → place_at (Some (table_places (entries 0 places) starts code)) at ≡ place_at (Some places) at
place_back code starts places at split short small stand = go (slice_get places at) refl
  where
    list : List Entry
    list = entries 0 places

    inside : at < length code → place_at (Some (table_places list starts code)) at ≡ byte_place list starts at
    inside l = range_inside (byte_place list starts) 0 (length code) at l ∙ ap (byte_place list starts) (let z : 0 + at ≡ at = omega arith in z)

    blank : code_site list at ≡ None → byte_place list starts at ≡ None
    blank e = rw e (neither (list_any (λ there. nat_eq there at) starts))

    go : (found : Option Place) → slice_get places at ≡ found → place_at (Some (table_places list starts code)) at ≡ unwrap_or found None
    go found e = elim (cases_lt at (length code)) [
      | inl l ↦ within found e l
      | inr g ↦ range_past (byte_place list starts) 0 (length code) at g ∙ sym (beyond found e g)
    ]
      where
        beyond : (found : Option Place) → slice_get places at ≡ found → length code ≤ at → unwrap_or found None ≡ None
        beyond None e g = refl
        beyond (Some None) e g = refl
        beyond (Some (Some place)) e g = absurd (let h = (start_inside code 0 starts (0 + at) split (stand (0 + at, record { line = place.0; column = place.1 }) (entry_there 0 places at place e))) in omega arith)

        within : (found : Option Place) → slice_get places at ≡ found → at < length code → place_at (Some (table_places list starts code)) at ≡ unwrap_or found None
        within None e l = inside l ∙ blank (site_found places at None e (omega arith))
        within (Some None) e l = inside l ∙ blank (site_found places at (Some None) e (omega arith))
        within (Some (Some place)) e l =
            let z : 0 + at ≡ at = omega arith in
            let start : Contains starts at = subst (λ a. Contains starts a) z (stand (0 + at, record { line = place.0; column = place.1 }) (entry_there 0 places at place e)) in
            let fine = small_there places at (Some place) small e in
            let d : nat_eq place.0 0 ≡ false = ne_eqb place.0 0 (let k = fine.0 in omega arith) in
            let site : code_site list at ≡ Some (record { line = place.0; column = place.1 }) = site_found places at (Some (Some place)) e (omega arith) ∙ rw d refl in
            inside l ∙ (λ i. cond (among at starts start i) (option_and_then site_place (site i)) None) ∙ placed_again (Some place) fine

no_entries : (places : List Place) (at : ℕ) → entries 0 places ≡ [] → place_at (Some places) at ≡ None
no_entries places at none = go (slice_get places at) refl
  where
    go : (found : Option Place) → slice_get places at ≡ found → unwrap_or found None ≡ None
    go None e = refl
    go (Some None) e = refl
    go (Some (Some place)) e =
        absurd (in_nil (0 + at, record { line = place.0; column = place.1 }) (subst (λ (list : List Entry). Contains list (0 + at, record { line = place.0; column = place.1 })) none (entry_there 0 places at place e)))

-- the places that there are, none where they are stripped
abbrev known_places : Option (List Place) → List Place
known_places None = []
known_places (Some places) = places

known_entries : (places : Option (List Place)) → entries_at_places places ≡ entries 0 (known_places places)
known_entries None = refl
known_entries (Some places) = refl

known_at : (places : Option (List Place)) (at : ℕ) → place_at places at ≡ place_at (Some (known_places places)) at
known_at None at = refl
known_at (Some places) at = refl

small_places : (positions : List Position) → AllByRecursion IsSmall (map place_of positions)
small_places [] = tt
small_places (position ∷ positions) = (small_place position, small_places positions)

known_small : (positions : Option (List Position)) → AllByRecursion IsSmall (known_places (option_map (λ ps. map place_of ps) positions))
known_small None = tt
known_small (Some positions) = small_places positions

-- what a program that can come back gives its table
record Recorded (p : Program) (starts : List ℕ) : Type 0 where
  pub split : SplitsFrom p.code 0 starts
  pub stand : (entry : Entry) → Contains (entries 0 (known_places (places_of p))) entry → Contains starts entry.0
  pub few : length (entries 0 (known_places (places_of p))) < 2 ^ 32

recorded_at : (p : Program) (h : CanComeBack p) → Recorded p h.starts
recorded_at p h =
    let split = split_splits p.code h.starts h.split in
    let stand : (entry : Entry) → Contains (entries 0 (known_places (places_of p))) entry → Contains h.starts entry.0 =
    λ entry c. All-contains (λ (e : Entry). Contains h.starts e.0) (entries_at_places (places_of p)) entry h.recorded (subst (λ (list : List Entry). Contains list entry) (sym (known_entries (places_of p))) c) in
    record {
      split = split;
      stand = stand;
      few = (let n = entries_few 0 (known_places (places_of p)) (length p.code) (λ entry c. start_inside p.code 0 h.starts entry.0 split (stand entry c)) in let s = h.short in omega arith);
    }

-- its table
table_of : (p : Program) (s : Sidecar) (h : CanComeBack p) → IsSidecar p s → Table s.positions.items (entries 0 (known_places (places_of p)))
table_of p s h is =
    let e = known_entries (places_of p) in
    let n = (recorded_at p h).few in
    subst (λ (list : List Entry). Table s.positions.items list) e (is.table (subst (λ (list : List Entry). length list < 2 ^ 32) (sym e) n))

read_again : (p : Program) (s : Sidecar) (h : CanComeBack p) → IsSidecar p s → IsRead s.positions.items p.code (dense (table_places (entries 0 (known_places (places_of p))) h.starts p.code))
read_again p s h is =
    let list = entries 0 (known_places (places_of p)) in
    let small = known_small p.positions in
    let r = recorded_at p h in
    let all : matched list h.starts ≡ length list = all_met p.code 0 h.starts list r.split h.short (entries_rise 0 (known_places (places_of p)) small)
    (λ entry c. (entries_are 0 (known_places (places_of p)) small entry c).lined) r.stand in
    record { list = list; is = table_of p s h is; whole = inr (h.starts, split_arrives p.code h.starts h.split, all, refl) }

same_code : (p q : Program) → DiffersInPositions p q → q.code ≡ p.code
same_code p q d = ap (λ (r : Program). r.code) d.rest

same_id : (p q : Program) → DiffersInPositions p q → q.debug_id ≡ p.debug_id
same_id p q d = ap (λ (r : Program). r.debug_id) d.rest

-- how many positions a chain of a shape carries
abbrev slots_of : Root × List Step × Tail × ℕ → ℕ
slots_of s = length (root_positions s.0) + length (steps_positions s.1)

root_slots : (p : Position) (root : Root) → length (root_positions root) ≡ length (root_positions (root_shape p root))
root_slots p (roots.Local slot name) = refl
root_slots p (roots.Named name pos) = refl
root_slots p (roots.This pos) = refl
root_slots p roots.Temporary = refl

step_slots : (p : Position) (step : Step) → length (step_positions step) ≡ length (step_positions (step_shape p step))
step_slots p (steps.Index operand flags pos bracket) = refl
step_slots p (steps.Property name getter setter flags pos) = refl
step_slots p (steps.Method name argc operand flags pos) = refl

steps_slots : (p : Position) (list : List Step) → length (steps_positions list) ≡ length (steps_positions (map (step_shape p) list))
steps_slots p [] = refl
steps_slots p (step ∷ list) =
    ap length (flat_map-cons step_positions step list) ∙ length-append (step_positions step) (steps_positions list)
    ∙ (λ i. step_slots p step i + steps_slots p list i)
    ∙ sym (ap length (flat_map-cons step_positions (step_shape p step) (map (step_shape p) list)) ∙ length-append (step_positions (step_shape p step)) (steps_positions (map (step_shape p) list)))

all_slots : List (Root × List Step × Tail × ℕ) → ℕ
all_slots [] = 0
all_slots (s ∷ shapes) = slots_of s + all_slots shapes

chains_slots : (p : Position) (chains : List Chain) → length (all_positions chains) ≡ all_slots (map (shape p) chains)
unfolding all_slots
chains_slots p [] = refl
chains_slots p (chain ∷ chains) =
    ap length (flat_map-cons positions chain chains) ∙ length-append (positions chain) (all_positions chains)
    ∙ (λ i. (length-append (root_positions chain.root) (steps_positions chain.steps.items) ∙ (λ j. root_slots p chain.root j + steps_slots p chain.steps.items j)) i + chains_slots p chains i)

same_slots : (p q : Program) → DiffersInPositions p q → length (all_positions q.chains) ≡ length (all_positions p.chains)
same_slots p q d = go (all_positions p.chains) (all_positions q.chains) refl refl
  where
    shaped : Position → length (all_positions q.chains) ≡ length (all_positions p.chains)
    shaped position = chains_slots position q.chains ∙ ap all_slots (d.chains position) ∙ sym (chains_slots position p.chains)

    go : (old new : List Position) → all_positions p.chains ≡ old → all_positions q.chains ≡ new → length (all_positions q.chains) ≡ length (all_positions p.chains)
    go (position ∷ old) new e f = shaped position
    go [] (position ∷ new) e f = shaped position
    go [] [] e f = ap length f ∙ sym (ap length e)

pub belongs_again : (p q : Program) (s : Sidecar) (h : CanComeBack p) → IsSidecar p s → IsStripped p q → (places : Option (List Place)) × (slots : List (Option Site)) × Belongs q s places slots
belongs_again p q s h is stripped = (
  dense (table_places (entries 0 (known_places (places_of p))) h.starts p.code),
  map recorded (all_positions p.chains),
  record {
    reads = record {
      own = is.id ∙ sym (same_id p q stripped.rest);
      read = subst (λ (code : List ℕ). IsRead s.positions.items code (dense (table_places (entries 0 (known_places (places_of p))) h.starts p.code))) (sym (same_code p q stripped.rest)) (read_again p s h is);
    };
    stream = is.stream h.few;
    counted = length-map (all_positions p.chains) recorded ∙ sym (same_slots p q stripped.rest);
  },
)

pub bytes_again : (p q r : Program) (s : Sidecar) → CanComeBack p → IsSidecar p s → IsStripped p q → IsAttached q s r → (pc : ℕ) → place_at (places_of r) pc ≡ place_at (places_of p) pc
bytes_again p q r s h is stripped attached pc =
    let read : IsRead s.positions.items p.code (places_of r) = subst (λ (code : List ℕ). IsRead s.positions.items code (places_of r)) (same_code p q stripped.rest) attached.belongs.reads.read in
    let places = known_places (places_of p) in
    let list = entries 0 places in
    let same : read.list ≡ list = one_table s.positions.items read.list list read.is (table_of p s h is) in
    let rec = recorded_at p h in
    elim read.whole as (λ _. place_at (places_of r) pc ≡ place_at (places_of p) pc) [
      | inl none ↦
          ap (λ (ps : Option (List Place)). place_at ps pc) none.1
          ∙ sym (known_at (places_of p) pc ∙ no_entries places pc (sym same ∙ none.0))
      | inr all ↦
          ap (λ (ps : Option (List Place)). place_at ps pc) all.3
          ∙ dense_at (table_places read.list all.0 p.code) pc
          ∙ (λ i. place_at (Some (table_places (same i) (one_arrival p.code all.0 h.starts all.1 (split_arrives p.code h.starts h.split) i) p.code)) pc)
          ∙ place_back p.code h.starts places pc rec.split h.short (known_small p.positions) rec.stand
          ∙ sym (known_at (places_of p) pc)
    ]

slots_again : (positions : List Position) → map slot_place (map recorded positions) ≡ map place_of positions
slots_again [] = refl
slots_again (position ∷ positions) = λ i. slot_again position i ∷ slots_again positions i

pub chains_again : (p q r : Program) (s : Sidecar) → CanComeBack p → IsSidecar p s → IsStripped p q → IsAttached q s r → map place_of (all_positions r.chains) ≡ map place_of (all_positions p.chains)
chains_again p q r s h is stripped attached =
    attached.chains
    ∙ ap (map slot_place) (one_stream s.chains.items attached.slots (map recorded (all_positions p.chains)) attached.belongs.stream (is.stream h.few))
    ∙ slots_again (all_positions p.chains)

pub rest_again : (p q r : Program) → DiffersInPositions p q → DiffersInPositions q r → DiffersInPositions p r
rest_again p q r a b = record { chains = λ position. b.chains position ∙ a.chains position; rest = b.rest ∙ a.rest }
