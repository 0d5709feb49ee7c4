-- Where the positions of a program lie in its source text.
use Rattle.std.specs.Prelude.{◌≡◌, ◌<◌, ◌≤◌, ℕ, Bool, true, List, IfSome, Option, Some, None, length, map, option_map, slice_get, slice_index}
use Rattle.std.specs.List.{All, flat_map, list_all}
use Rattle.grain_base.specs.Place.{place_of}
use Rattle.grain_base.specs.declared.position.Position.{Position}
use Rattle.grain_bytecode.specs.Positions.{place_at}
use Rattle.grain_code.specs.Split.{Split}
use Rattle.grain_pools.specs.Chain.{positions}
use Rattle.grain_rules.specs.Layout.{IsStart}
use Rattle.grain.specs.Program.{Program, places_of}
use Rattle.rhai_emit.specs.Places.{IsOneOf, Places}
use Rattle.grain_base.specs.declared.pos.Site.{Site}
use Rattle.rhai_errors.specs.Places.{IsInLines, LiesIn}

-- a position that is a place lies in the text
abbrev pub IsPositionOf : List ℕ → Position → Type 0
IsPositionOf source position = IfSome (place_of position) (λ p. LiesIn source (record { line = p.0; column = p.1 }))

-- a position that is a place lies in lines of these lengths
abbrev pub IsListedPosition : List ℕ → Position → Type 0
IsListedPosition lengths position = IfSome (place_of position) (λ p. IsInLines lengths (record { line = p.0; column = p.1 }))

-- a position that is a place is one of these
abbrev pub IsPositionAmong : Places → Position → Type 0
IsPositionAmong places position = IfSome (place_of position) (λ p. IsOneOf places (record { line = p.0; column = p.1 }))

-- a position that is a place is in the list: it passes each test that all places in the list pass
abbrev pub IsPositionIn : List Site → Position → Type 0
IsPositionIn places position = IfSome (place_of position) (λ p. (test : Site → Bool) → list_all test places ≡ true → test (record { line = p.0; column = p.1 }) ≡ true)

-- both: it lies in the lines, and is in the list
pub record IsKeptPosition (lengths : List ℕ) (places : List Site) (position : Position) : Type 0 where
  pub listed : IsListedPosition lengths position
  pub among : IsPositionIn places position

-- This holds of each position of the program, of its code and in its chains.
pub record ArePositions (P : Position → Type 0) (p : Program) : Type 0 where
  pub code : IfSome p.positions (All P)
  pub chains : All P (flat_map positions p.chains)

-- the place lies in lines of these lengths, and a position has room for its numbers
pub record FitsPosition (lengths : List ℕ) (place : Site) : Type 0 where
  pub listed : IsInLines lengths place
  pub line : place.line ≤ 65535
  pub column : place.column ≤ 65535

-- What is found is the place if it fits, and nothing otherwise.
pub record IsPositionFor (lengths : List ℕ) (place : Site) (found : Option (ℕ × ℕ)) : Type 0 where
  pub kept : FitsPosition lengths place → found ≡ Some (place.line, place.column)
  pub lost : (FitsPosition lengths place → ⊥) → found ≡ None

-- at the address of each index the place of that index is found
abbrev pub ArePlacedAt : List ℕ → List Site → List ℕ → Option (List Position) → Type 0
ArePlacedAt lengths places offsets found =
    (i : ℕ) (place : Site) → slice_get places i ≡ Some place → IsPositionFor lengths place (place_at (option_map (λ positions. map place_of positions) found) (slice_index offsets i))

-- Each of the first `count` offsets lies in code of this length, and is the same as no other offset.
pub record AreApart (count len : ℕ) (offsets : List ℕ) : Type 0 where
  pub some : count ≤ length offsets
  pub inside : (i : ℕ) → i < count → slice_index offsets i < len
  pub apart : (i j : ℕ) → i < count → j < length offsets → slice_index offsets i ≡ slice_index offsets j → i ≡ j

-- The code is as many instructions as there are places, each of which has the place of its index.
pub record IsLocated (lengths : List ℕ) (places : List Site) (p : Program) : Type 0 where
  pub starts : List ℕ
  pub split : Split p.code starts
  pub count : length starts ≡ length places
  pub placed : ArePlacedAt lengths places starts p.positions

-- each instruction of the code is for one of these places, and has it as its position if it fits
abbrev pub EachHasPlace : List ℕ → Places → Program → Type 0
EachHasPlace lengths places p = (at : ℕ) → IsStart p.code at → (place : Site) × IsOneOf places place × IsPositionFor lengths place (place_at (places_of p) at)
