-- The entries of an address table for positions.
use Rattle.std.proofs.Common.{◌≡◌, ℕ, zero, suc, ◌+◌, ◌<◌, ◌≤◌, ◌^◌, ◌&&◌, Bool, List, [], ◌∷◌, ◌++◌, length, map}
use Rattle.std.proofs.Common.{take, get_or, slice_index_or, true, false, inl, inr, Option, Some, None, unwrap_or, refl, sym, ap, ◌∙◌, arith, add-one}
use Rattle.std.specs.Prelude.{All, Any, filter_map}
use Rattle.std.specs.List.{enumerate_from, cons_option, list_all, AllWithin, HoldsAt}
use Rattle.std.specs.Option.{is_none}
use Rattle.std.proofs.Math.Seq.{take-suc}
use Rattle.std.proofs.lemmas.Bool.{cases_eq, eq-eqb, ne_eqb}
use Rattle.std.proofs.lemmas.List.{append-nil, length-map, length-take-le}
use Rattle.std.proofs.lemmas.List.Elements.{filter_map-append}
use Rattle.grain_base.proofs.IncreasingLists.{RisesFrom, rises_up}
use Rattle.grain_base.specs.AddressTable.{Entry, addresses, entries_with_site}
use Rattle.grain_base.specs.Place.{place_of, line_of, column_of, is_none as no_place}
use Rattle.grain_base.specs.declared.position.Position.{Position}
use Rattle.std.specs.List.Sorted.{IsStrictlyIncreasing}
use Rattle.grain_bytecode.specs.Positions.{entry_of, entries_at_places}

-- the entries for places from an address on
abbrev entries_from : ℕ → List Position → List Entry
entries_from at list = filter_map entry_of (enumerate_from at (map place_of list))

enumerate-push : {X : Type 0} (n : ℕ) (xs : List X) (x : X) → enumerate_from n (xs ++ x ∷ []) ≡ enumerate_from n xs ++ (n + length xs, x) ∷ []
enumerate-push n [] x = let end : n ≡ n + 0 = omega arith in ap (λ k. (k, x) ∷ []) end
enumerate-push n (y ∷ xs) x =
    let end : n + 1 + length xs ≡ n + suc (length xs) = omega arith in
    ap (λ items. (n, y) ∷ items) (enumerate-push (n + 1) xs x ∙ ap (λ k. enumerate_from (n + 1) xs ++ (k, x) ∷ []) end)

map-push : {X Y : Type 0} (f : X → Y) (xs : List X) (x : X) → map f (xs ++ x ∷ []) ≡ map f xs ++ f x ∷ []
map-push f [] x = refl
map-push f (y ∷ xs) x = ap (λ ys. f y ∷ ys) (map-push f xs x)

-- one position more
entries_next : (list : List Position) (i : ℕ) (d : Position) → i < length list
    → entries_at_places (Some (map place_of (take (i + 1) list))) ≡ entries_at_places (Some (map place_of (take i list))) ++ cons_option (entry_of (i, place_of (get_or list i d))) []
entries_next list i d inside =
    let place = place_of (get_or list i d) in
    let front = map place_of (take i list) in
    let long : 0 + length front ≡ i = omega (arith, length-map (take i list) place_of, length-take-le i list (omega arith)) in
    let cut : map place_of (take (i + 1) list) ≡ front ++ place ∷ [] = ap (λ n. map place_of (take n list)) (add-one i) ∙ ap (map place_of) (take-suc list i d inside)
    ∙ map-push place_of (take i list) (get_or list i d) in
    ap (λ l. filter_map entry_of (enumerate_from 0 l)) cut
    ∙ ap (filter_map entry_of) (enumerate-push 0 front place ∙ ap (λ n. enumerate_from 0 front ++ (n, place) ∷ []) long)
    ∙ filter_map-append entry_of (enumerate_from 0 front) ((i, place) ∷ [])

nowhere : (p : Position) → None ≡ line_of p → place_of p ≡ None
nowhere p e = elim (cases_eq p.line 0) [
  | inl none ↦ rw (eq-eqb p.line 0 none) refl
  | inr some ↦ let there = rw (ne_eqb p.line 0 some) at e in absurd cc
]

somewhere : (p : Position) (line : ℕ) → Some line ≡ line_of p → place_of p ≡ Some (line, unwrap_or (column_of p) 0)
somewhere p line e = elim (cases_eq p.line 0) [
  | inl none ↦ let gone = rw (eq-eqb p.line 0 none) at e in absurd cc
  | inr some ↦
      let there = rw (ne_eqb p.line 0 some) at e in
      let same : line ≡ p.line = cc in
      rw (ne_eqb p.line 0 some, same) (ap (λ n. Some (p.line, n)) (sym (column p)))
]
  where
    column : (p : Position) → unwrap_or (column_of p) 0 ≡ p.column
    column p = elim (cases_eq p.column 0) [
      | inl none ↦ rw (eq-eqb p.column 0 none) (sym none)
      | inr some ↦ rw (ne_eqb p.column 0 some) refl
    ]

-- a position without a line has no entry
pub without_line : (list : List Position) (i : ℕ) (d : Position) → i < length list → None ≡ line_of (get_or list i d)
    → entries_at_places (Some (map place_of (take (i + 1) list))) ≡ entries_at_places (Some (map place_of (take i list)))
without_line list i d inside none =
    entries_next list i d inside ∙ ap (λ place. entries_at_places (Some (map place_of (take i list))) ++ cons_option (entry_of (i, place)) []) (nowhere (get_or list i d) none) ∙ append-nil _

-- one that has a line has one
pub with_line : (list : List Position) (i : ℕ) (d : Position) (line : ℕ) → i < length list → Some line ≡ line_of (get_or list i d)
    → entries_at_places (Some (map place_of (take (i + 1) list))) ≡ entries_at_places (Some (map place_of (take i list))) ++ (i, record { line = line; column = unwrap_or (column_of (get_or list i d)) 0 }) ∷ []
with_line list i d line inside some =
    entries_next list i d inside ∙ ap (λ place. entries_at_places (Some (map place_of (take i list))) ++ cons_option (entry_of (i, place)) []) (somewhere (get_or list i d) line some)

-- ... and stands too high
any_more : (o : Option Entry) (rest : List Entry) → Any (λ entry. 2 ^ 32 ≤ entry.0) rest → Any (λ entry. 2 ^ 32 ≤ entry.0) (cons_option o rest)
any_more None rest any = any
any_more (Some e) rest (k, x, inside, is, high) = (suc k, x, omega arith, is, high)

any_high : (at : ℕ) (list : List Position) (i : ℕ) (d : Position) (line : ℕ) → i < length list → Some line ≡ line_of (get_or list i d) → 2 ^ 32 ≤ at + i → Any (λ entry. 2 ^ 32 ≤ entry.0) (entries_from at list)
any_high at [] i d line inside some high = absurd (omega arith)
any_high at (p ∷ list) zero d line inside some high = rw (somewhere p line some) (0, (at, record { line = line; column = unwrap_or (column_of p) 0 }), omega arith, refl, omega arith)
any_high at (p ∷ list) (suc i) d line inside some high = any_more (entry_of (at, place_of p)) (entries_from (at + 1) list) (any_high (at + 1) list i d line (omega arith) some (omega arith))

pub too_high : (list : List Position) (i : ℕ) (d : Position) (line : ℕ) → i < length list → Some line ≡ line_of (get_or list i d) → 2 ^ 32 ≤ i
    → Any (λ entry. 2 ^ 32 ≤ entry.0) (entries_at_places (Some (map place_of list)))
too_high list i d line inside some high = any_high 0 list i d line inside some (omega arith)

-- no address both fits and doesn't
pub fits_or_not : (entries : List Entry) → All (λ entry. entry.0 < 2 ^ 32) entries → Any (λ entry. 2 ^ 32 ≤ entry.0) entries → ⊥
fits_or_not entries all (k, entry, inside, is, high) =
    let low : (slice_index_or entries k entry).0 < 2 ^ 32 = all k entry inside in
    omega (arith, ap (λ (e : Entry). e.0) is, low, high)

-- an entry for a place has a line
kept_from : (at : ℕ) (list : List Position) → entries_with_site (entries_from at list) ≡ entries_from at list
kept_from at [] = refl
kept_from at (p ∷ list) = elim (cases_eq p.line 0) [
  | inl none ↦ rw (eq-eqb p.line 0 none) (kept_from (at + 1) list)
  | inr some ↦ rw (ne_eqb p.line 0 some) (rw (ne_eqb p.line 0 some) (ap (λ entries. (at, record { line = p.line; column = p.column }) ∷ entries) (kept_from (at + 1) list)))
]

lower : (least : ℕ) (xs : List ℕ) → RisesFrom (least + 1) xs → RisesFrom least xs
lower least [] rises = tt
lower least (x ∷ xs) rises = (omega (arith, rises.0), rises.1)

rises_with : (at : ℕ) (list : List Position) → RisesFrom at (addresses (entries_from at list))
rises_with at [] = tt
rises_with at (p ∷ list) = elim (cases_eq p.line 0) [
  | inl none ↦ rw (eq-eqb p.line 0 none) (lower at (addresses (entries_from (at + 1) list)) (rises_with (at + 1) list))
  | inr some ↦ rw (ne_eqb p.line 0 some) (omega arith, rises_with (at + 1) list)
]

pub entries_kept : (list : List Position) → entries_with_site (entries_at_places (Some (map place_of list))) ≡ entries_at_places (Some (map place_of list))
entries_kept list = kept_from 0 list

pub entries_ascend : (list : List Position) → IsStrictlyIncreasing (addresses (entries_with_site (entries_at_places (Some (map place_of list)))))
entries_ascend list = rw (kept_from 0 list) (rises_up 0 _ (rises_with 0 list))

-- positions that are all none
pub all_none : (list : List Position) → AllWithin (λ p. no_place p ≡ true) list 0 (length list) → list_all is_none (map place_of list) ≡ true
all_none [] none = refl
all_none (p ∷ list) none = rw (none 0 p (omega arith) (omega arith)) (all_none list (λ k d low inside. none (suc k) d (omega arith) (omega arith)))

-- one that isn't none
pub some_place : (list : List Position) (k : ℕ) → k < length list → HoldsAt (λ p. no_place p ≡ false) list k → list_all is_none (map place_of list) ≡ false
some_place [] k inside here = absurd (omega arith)
some_place (p ∷ list) zero inside here = rw (here p) refl
some_place (p ∷ list) (suc k) inside here = at (is_none (place_of p)) (some_place list k (omega arith) here)
  where
    at : (b : Bool) → list_all is_none (map place_of list) ≡ false → (b && list_all is_none (map place_of list)) ≡ false
    at true later = later
    at false later = refl
