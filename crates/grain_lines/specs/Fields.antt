-- What the words of a case spell.
use Rattle.std.specs.Prelude.{ℕ, ◌^◌, ◌<◌, ◌==◌, Bool, ◌&&◌, if◌then◌else◌, List, [], ◌∷◌, codes, length}
use Rattle.std.specs.Prelude.{nat_lt, IsSomeAnd, Option, Some, None, option_and_then}
use Rattle.std.specs.Int.{from_be_bytes, w16}
use Rattle.std.specs.List.{slice_split}
use Rattle.std.specs.Option.{option_map}
use Rattle.std.specs.Result.{result_ok}
use Rattle.std.specs.Str.{all_ascii_digits, bytes_eq}
use Rattle.std.specs.Str.Parse.{digits_value}
use Rattle.hex.specs.Hex.{decode_of, decode_sized}
use Rattle.grain_code.specs.Span.{Span}
use Rattle.grain_lines.specs.Words.{is_word}

-- the bytes that HEX spells: digits in pairs, or `-` for no bytes
abbrev pub hex_of : List ℕ → Option (List ℕ)
hex_of word = if bytes_eq word (codes "-") then Some [] else result_ok (decode_of word)

-- the word spells bytes, and at least one
abbrev pub SpellsBytes : List ℕ → Type 0
SpellsBytes word = IsSomeAnd (hex_of word) (λ bytes. 0 < length bytes)

-- the number that decimal digits alone spell, if it has no more bits
abbrev pub decimal_of : ℕ → List ℕ → Option ℕ
decimal_of bits word =
    if is_word word && all_ascii_digits word && nat_lt (digits_value 10 word) (2 ^ bits)
    then Some (digits_value 10 word)
    else None

-- the number that ADDRESS, ENTRY or END spells
abbrev pub u32_of : List ℕ → Option ℕ
u32_of word = decimal_of 32 word

-- the number that DECLARED spells
abbrev pub u16_of : List ℕ → Option ℕ
u16_of word = decimal_of 16 word

-- a number whose bits are all capabilities, which have the 15 lowest ones
abbrev pub if_known : ℕ → Option ℕ
if_known bits = if nat_lt bits (2 ^ 15) then Some bits else None

-- the capabilities that CAPS spells: four hexadecimal digits of known bits
abbrev pub caps_spelled : List ℕ → Option ℕ
caps_spelled word =
    option_and_then if_known (option_map (from_be_bytes w16) (result_ok (decode_sized word 2)))

abbrev pub is_colon : ℕ → Bool
is_colon byte = byte == 58

-- the chunk of an entry, an end and a declared stack
abbrev pub span_at : ℕ → ℕ → ℕ → Span
span_at from to most = record { entry = from; end = to; max_stack = most }

-- the chunk that CHUNK spells, by its parts between colons: ENTRY, END and DECLARED
abbrev pub chunk_by : List (List ℕ) → Option Span
chunk_by (entry ∷ end ∷ declared ∷ []) =
    let ending : ℕ → ℕ → Option Span = λ from to. option_map (span_at from to) (u16_of declared) in
    option_and_then (λ from. option_and_then (ending from) (u32_of end)) (u32_of entry)
chunk_by _ = None

abbrev pub chunk_of : List ℕ → Option Span
chunk_of word = chunk_by (slice_split is_colon word)

-- the chunks that all these words spell
abbrev pub chunks_spelled : List (List ℕ) → Option (List Span)
chunks_spelled [] = Some []
chunks_spelled (word ∷ more) =
    option_and_then (λ chunk. option_map (λ chunks. chunk ∷ chunks) (chunks_spelled more)) (chunk_of word)

-- the words spell chunks, and at least one
abbrev pub SpellChunks : List (List ℕ) → Type 0
SpellChunks fields = IsSomeAnd (chunks_spelled fields) (λ chunks. 0 < length chunks)
