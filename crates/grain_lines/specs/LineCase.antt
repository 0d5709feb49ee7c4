-- The case that a line spells: what it asks.
use Rattle.std.specs.Prelude.{ℕ, ◌+◌, ◌<◌, Bool, if◌then◌else◌, length, List, [], ◌∷◌, codes, Option}
use Rattle.std.specs.Prelude.{None, is_none, option_and_then}
use Rattle.std.specs.Option.{option_map}
use Rattle.std.specs.Str.{bytes_eq}
use Rattle.grain_code.specs.Span.{Span}
use Rattle.grain_lines.specs.Fields.{caps_spelled, chunks_spelled, hex_of, u32_of}
use Rattle.grain_lines.specs.Words.{words}
use Rattle.grain_lines.specs.declared.case.LineCase.{LineCase}
use Rattle.grain_lines.specs.declared.case.LineCase.TheVariants.{Code, Site, Verify}

-- what a case asks, one constructor for each form
pub data Asked : Type 0 where
  code : List ℕ → Asked
  site : List ℕ → ℕ → Asked
  verify : ℕ → List ℕ → List Span → Asked

-- what a value of `LineCase` asks
abbrev pub as_asked : LineCase → Asked
as_asked (Code bytes) = code bytes.items
as_asked (Site table address) = site table.items address
as_asked (Verify caps bytes chunks) = verify caps.0 bytes.items chunks.items

-- it takes memory to hold what is asked, as that has bytes or chunks
abbrev pub TakesMemory : Asked → Type 0
TakesMemory (code bytes) = 0 < length bytes
TakesMemory (site table address) = 0 < length table
TakesMemory (verify caps bytes chunks) = 0 < length bytes + length chunks

-- `code HEX`, by the words after the first
abbrev pub code_by : List (List ℕ) → Option Asked
code_by (hex ∷ []) = option_map code (hex_of hex)
code_by _ = None

-- `site HEX ADDRESS`, by the words after the first
abbrev pub site_by : List (List ℕ) → Option Asked
site_by (hex ∷ address ∷ []) =
    option_and_then (λ bytes. option_map (site bytes) (u32_of address)) (hex_of hex)
site_by _ = None

-- `verify CAPS HEX CHUNK ..`, by the words after the first
abbrev pub verify_by : List (List ℕ) → Option Asked
verify_by (caps ∷ hex ∷ chunks) =
    let of_parts : ℕ → List ℕ → Option Asked =
    λ bits bytes. option_map (verify bits bytes) (chunks_spelled chunks) in
    option_and_then (λ bits. option_and_then (of_parts bits) (hex_of hex)) (caps_spelled caps)
verify_by _ = None

abbrev pub asked_by : List (List ℕ) → Option Asked
asked_by [] = None
asked_by (name ∷ fields) =
    if bytes_eq name (codes "code") then code_by fields
    else if bytes_eq name (codes "site") then site_by fields
    else if bytes_eq name (codes "verify") then verify_by fields
    else None

-- what the line asks, or nothing if it has no form of a case
unfoldable pub asked : List ℕ → Option Asked
asked line = asked_by (words line)

-- a case of no form
abbrev pub is_bad : List ℕ → Bool
is_bad line = is_none (asked line)
