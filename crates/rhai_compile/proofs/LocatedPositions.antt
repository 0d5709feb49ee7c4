-- Where the positions of assembled operations are: each instruction has the place of the operation that it was.
use Rattle.std.proofs.Common.{◌≡◌, ◌≢◌, ℕ, ◌+◌, ◌<◌, inl, inr, zero, suc, Bool, true, false, cond, List, [], ◌∷◌, Option, Some, None, Result, Ok, Err, length, get_or, map, is_none, ap, refl, subst, sym, ◌∙◌, arith}
use Rattle.std.specs.Prelude.{IfOk, IfSome, option_map, slice_get, slice_index}
use Rattle.std.specs.List.{Contains, list_all}
use Rattle.std.proofs.Math.ListN.{get_or-append, set}
use Rattle.std.proofs.lemmas.Bool.{cases_eq}
use Rattle.std.proofs.lemmas.List.{get_or-set_other, get_or-set_same, length-append, length-map, map-set}
use Rattle.std.proofs.lemmas.Option.{get_or_from_slice_get, slice_get-get_or, slice_get_within, unwrap_or-slice_get}
use Rattle.grain_base.specs.Place.{is_none as is_no_place, place_of}
use Rattle.grain_base.specs.declared.position.Position.{Position}
use Rattle.grain_bytecode.specs.Positions.{dense, place_at}
use Rattle.grain_code.specs.Assembly.{IsAssembly, offsets_from}
use Rattle.grain_code.specs.declared.op.Op.{Op}
use Rattle.grain_code.proofs.OperationPlaces.{split_there}
use Rattle.grain_code.proofs.Splits.{one_split}
use Rattle.grain_rules.proofs.ListedStarts.{contains_place}
use Rattle.grain_rules.proofs.Offsets.{apart, ascends, offset_count, offset_end}
use Rattle.grain.specs.Program.{Program}
use Rattle.rhai_compile.specs.Positions.{AreApart, ArePlacedAt, EachHasPlace, FitsPosition, IsKeptPosition, IsListedPosition, IsLocated, IsPositionFor}
use Rattle.rhai_compile.proofs.PlacedPositions.{entry_passes, position_in}
use Rattle.rhai_emit.proofs.OneOf.{one_of}
use Rattle.rhai_emit.proofs.PlaceTests.{and_right}
use Rattle.rhai_emit.specs.Places.{IsOneOf, Places, pass}
use Rattle.rhai_errors.specs.Places.{IsInLines, no_place}
use Rattle.grain_base.specs.declared.pos.Site.{Site}

-- a place that doesn't fit isn't found
lost_for : (lengths : List ℕ) (place : Site) (result : Position) → IfSome (place_of result) (λ p. place ≡ record { line = p.0; column = p.1 }) → IsListedPosition lengths result → (FitsPosition lengths place → ⊥) → place_of result ≡ None
lost_for lengths place result own listed unfit = either (is_no_place result) refl where
  found : Bool → Option (ℕ × ℕ)
  found b = cond b None (Some (result.line, result.column))

  either : (b : Bool) → is_no_place result ≡ b → found b ≡ None
  either true e = refl
  either false e = absurd (
      let there : place_of result ≡ Some (result.line, result.column) = ap (λ (b : Bool). cond b None (Some (result.line, result.column))) e in
      let same : place ≡ record { line = result.line; column = result.column } = subst (λ (f : Option (ℕ × ℕ)). IfSome f (λ p. place ≡ record { line = p.0; column = p.1 })) there own in
      let inside : IsInLines lengths (record { line = result.line; column = result.column }) = subst (λ (f : Option (ℕ × ℕ)). IfSome f (λ p. IsInLines lengths (record { line = p.0; column = p.1 }))) there listed in
      let line : place.line ≡ result.line = ap (λ (p : Site). p.line) same in
      let column : place.column ≡ result.column = ap (λ (p : Site). p.column) same in
      let a = result.line_fits in
      let b = result.column_fits in
      unfit (record { listed = subst (IsInLines lengths) (sym same) inside; line = omega arith; column = omega arith }))

-- a place that fits is found, and any other isn't
pub exact_for : (lengths : List ℕ) (place : Site) (result : Position) → (FitsPosition lengths place → place_of result ≡ Some (place.line, place.column)) → IfSome (place_of result) (λ p. place ≡ record { line = p.0; column = p.1 }) → IsListedPosition lengths result → IsPositionFor lengths place (place_of result)
exact_for lengths place result kept own listed = record {
  kept = kept;
  lost = lost_for lengths place result own listed;
}

-- the place of an index, as a position, is kept
pub kept_here : (lengths : List ℕ) (places : List Site) (n : ℕ) (default : Site) (position : Position) → n < length places → IsListedPosition lengths position → IfSome (place_of position) (λ p. get_or places n default ≡ record { line = p.0; column = p.1 }) → IsKeptPosition lengths places position
kept_here lengths places n default position within listed own =
    let place : Site = get_or places n default in
    let e : slice_get places n ≡ Some place = slice_get-get_or places n default within in
    record {
      listed = listed;
      among = position_in places place n position within (sym (get_or_from_slice_get places n place place e)) own;
    }

none_there : (list : List (Option (ℕ × ℕ))) (at : ℕ) → list_all is_none list ≡ true → get_or list at None ≡ None
none_there [] at e = refl
none_there (None ∷ xs) zero e = refl
none_there (Some x ∷ xs) zero e = absurd (let f : false ≡ true = e in cc)
none_there (x ∷ xs) (suc at) e = none_there xs at (and_right (is_none x) (list_all is_none xs) e)

-- what is found where places are stripped that are all none
dense_at : (list : List (Option (ℕ × ℕ))) (at : ℕ) → place_at (dense list) at ≡ get_or list at None
dense_at list at = either (list_all is_none list) refl where
  either : (b : Bool) → list_all is_none list ≡ b → place_at (cond b None (Some list)) at ≡ get_or list at None
  either true e = sym (none_there list at e)
  either false e = unwrap_or-slice_get list at None

-- each place so far is found at its offset
abbrev pub AreFoundUpTo : List ℕ → List Site → List ℕ → ℕ → List Position → Type 0
AreFoundUpTo lengths places offsets n xs = (i : ℕ) (place : Site) → i < n → slice_get places i ≡ Some place → IsPositionFor lengths place (get_or (map place_of xs) (slice_index offsets i) None)

module _ (lengths : List ℕ) (places : List Site) (offsets : List ℕ) (len : ℕ) (apart_all : AreApart (length places) len offsets) where
  -- one more place, written at its offset
  pub found_more : (xs : List Position) (n : ℕ) (p : Position) → n < length offsets → slice_index offsets n < length xs → ((place : Site) → slice_get places n ≡ Some place → IsPositionFor lengths place (place_of p)) → AreFoundUpTo lengths places offsets n xs
      → AreFoundUpTo lengths places offsets (n + 1) (set xs (slice_index offsets n) p)
  found_more xs n p l inside own before i place below e =
      let there : ℕ = slice_index offsets n in
      let moved : get_or (map place_of (set xs there p)) (slice_index offsets i) None ≡ get_or (set (map place_of xs) there (place_of p)) (slice_index offsets i) None =
      ap (λ (ys : List (Option (ℕ × ℕ))). get_or ys (slice_index offsets i) None) (map-set place_of xs there p) in
      subst (IsPositionFor lengths place) (sym moved)
      (elim (cases_eq i n) [
        | inl same ↦ subst (λ (k : ℕ). IsPositionFor lengths place (get_or (set (map place_of xs) there (place_of p)) (slice_index offsets k) None)) (sym same)
            (subst (IsPositionFor lengths place) (sym (get_or-set_same (map place_of xs) there (place_of p) None (let m = length-map xs place_of in omega arith)))
            (own place (subst (λ (k : ℕ). slice_get places k ≡ Some place) same e)))
        | inr differ ↦
            let few : i < n = omega arith in
            let ne : slice_index offsets i ≢ there = λ q. differ (apart_all.apart i n (slice_get_within places i place e) l q) in
            subst (IsPositionFor lengths place) (sym (get_or-set_other (map place_of xs) there (slice_index offsets i) (place_of p) None ne)) (before i place few e)
      ])

  -- in the end each place is found
  pub found_all : (xs : List Position) (found : Option (List Position)) → option_map (λ positions. map place_of positions) found ≡ dense (map place_of xs) → AreFoundUpTo lengths places offsets (length places) xs → ArePlacedAt lengths places offsets found
  found_all xs found e all i place here =
      let same : place_at (option_map (λ positions. map place_of positions) found) (slice_index offsets i) ≡ get_or (map place_of xs) (slice_index offsets i) None =
      ap (λ (f : Option (List (Option (ℕ × ℕ)))). place_at f (slice_index offsets i)) e ∙ dense_at (map place_of xs) (slice_index offsets i) in
      subst (IsPositionFor lengths place) (sym same) (all i place (slice_get_within places i place here) here)

-- the offsets of assembled operations
pub offsets_apart : (ops : List Op) (code offsets : List ℕ) → IsAssembly ops code offsets → AreApart (length ops) (length code) offsets
offsets_apart ops code offsets made =
    let many = offset_count ops code offsets made in
    record {
      some = omega arith;
      inside = λ i l. let a = ascends ops code offsets made i (length ops) l (omega arith) in let e = offset_end ops code offsets made in omega arith;
      apart = λ i j l h e. apart ops code offsets made i j (omega arith) (omega arith) e;
    }

-- a program of assembled operations whose places are found at their offsets
pub located_in : (lengths : List ℕ) (places : List Site) (ops : List Op) (p : Program) (offsets : List ℕ) → IsAssembly ops p.code offsets → length places ≡ length ops → ArePlacedAt lengths places (offsets_from 0 ops) p.positions → IsLocated lengths places p
located_in lengths places ops p offsets made many placed =
    let s = split_there ops p.code offsets made in
    let a : length offsets ≡ length s.0 + 1 = ap (λ (xs : List ℕ). length xs) s.2 ∙ length-append s.0 (length p.code ∷ []) in
    let b = offset_count ops p.code offsets made in
    let count : length s.0 ≡ length places = omega arith in
    record {
      starts = s.0;
      split = s.1;
      count = count;
      placed = λ i place e.
          let within : i < length places = slice_get_within places i place e in
          let same : slice_index (offsets_from 0 ops) i ≡ slice_index s.0 i = ap (λ (xs : List ℕ). get_or xs i 0) (sym made.placed ∙ s.2) ∙ get_or-append s.0 (length p.code ∷ []) 0 i (omega arith) in
          subst (λ (at : ℕ). IsPositionFor lengths place (place_at (option_map (λ positions. map place_of positions) p.positions) at)) same (placed i place e);
    }

-- the same of what is built
pub if_located : {X E : Type 0} (lengths : List ℕ) (places : List Site) (ops : List Op) (r : Result X E) (at : X → Program) (found : Option (List Position)) → IfOk r (λ x. (offsets : List ℕ) × IsAssembly ops (at x).code offsets) → IfOk r (λ x. (at x).positions ≡ found) → length places ≡ length ops → ArePlacedAt lengths places (offsets_from 0 ops) found
    → IfOk r (λ x. IsLocated lengths places (at x))
if_located lengths places ops (Ok x) at found made e many placed =
    located_in lengths places ops (at x) made.0 made.1 many (subst (ArePlacedAt lengths places (offsets_from 0 ops)) (sym e) placed)
if_located lengths places ops (Err error) at found made e many placed = tt

-- where what all of these pass all of the list do, each instruction is for one of these
pub each_has_place : (lengths : List ℕ) (these : Places) (places : List Site) (p : Program) → ((test : Site → Bool) → pass test these ≡ true → list_all test places ≡ true) → IsLocated lengths places p → EachHasPlace lengths these p
each_has_place lengths these places p are located at start =
    let one : start.starts ≡ located.starts = one_split p.code start.starts located.starts start.split located.split in
    let k = contains_place located.starts at (subst (λ (xs : List ℕ). Contains xs at) one start.here) in
    let count = located.count in
    let there : k.0 < length located.starts = slice_get_within located.starts k.0 at k.1 in
    let within : k.0 < length places = omega arith in
    let place : Site = get_or places k.0 no_place in
    let e : slice_get places k.0 ≡ Some place = slice_get-get_or places k.0 no_place within in
    let among : IsOneOf these place = one_of these place (λ test all. entry_passes test places k.0 place within (sym (get_or_from_slice_get places k.0 place place e)) (are test all)) in
    let same : slice_index located.starts k.0 ≡ at = get_or_from_slice_get located.starts k.0 at 0 k.1 in
    (place, among, subst (λ (x : ℕ). IsPositionFor lengths place (place_at (option_map (λ positions. map place_of positions) p.positions) x)) same (located.placed k.0 place e))
