-- Laws of what the words of a case spell: numbers, capabilities and chunks.
use Rattle.std.proofs.Common.{codes, ◌≡◌, ℕ, ◌<◌, ◌^◌, ◌⊎◌, inl, inr, eqb, Bool, true, false, ◌&&◌, List, [], ◌∷◌, length, nat_lt, Some, None, Result, Ok, Err, refl, ap, arith, IsUtf8, ◌∙◌, sym, subst, ◌↔◌, ◌++◌, Option}
use Rattle.std.specs.Char.{is_ascii_hexdigit}
use Rattle.std.specs.Int.{is_in_range}
use Rattle.std.specs.List.{list_all, starts_with, slice_split}
use Rattle.std.specs.Str.{all_ascii_digits, bytes_eq}
use Rattle.std.specs.Str.Parse.{AllDigits, IsNumeral, ParsesUnsigned, digits_value, without_leading_plus}
use Rattle.std.specs.Result.{OkIff, result_ok}
use Rattle.std.proofs.lemmas.Bool.{false≢true, cases_Bool, and_from, and_parts, cond-true, cond-false, eqb-true, ltb-true, lt-ltb}
use Rattle.std.proofs.lemmas.Fmt.{IsAscii-from_digits}
use Rattle.std.proofs.lemmas.Str.{IsUtf8-from_ascii}
use Rattle.std.proofs.lemmas.Str.Parse.{digit_from_value, tells_all_ascii_digits, tells_digits}
use Rattle.grain_lines.specs.Words.{is_word}
use Rattle.grain_lines.specs.Fields.{SpellChunks, SpellsBytes, chunks_spelled, hex_of, u32_of, chunk_by, chunk_of, if_known, is_colon}
use Rattle.std.specs.Prelude.{◌%◌, ◌-◌, ◌||◌, IsSomeAnd, option_and_then, IfSome, IsSome, MatchResult, if◌then◌else◌, is_ok, is_some, nat_lt}
use Rattle.std.specs.Option.{option_map}
use Rattle.std.proofs.lemmas.List.Splits.{slice_split_at, slice_split_none, length-slice_split}
use Rattle.std.proofs.lemmas.Bool.Decides.{nat_tests}
use Rattle.std.proofs.lemmas.List.Sums.{AllPass-from_list_all, list_all-from_AllPass}
use Rattle.hex.specs.Hex.{decode_of, decode_pairs, is_hex_digit}
use Rattle.hex.specs.declared.error.FromHexError.{FromHexError}
use Rattle.hex.proofs.HexLemmas.{decode_of-digits, decode_of-ok}
use Rattle.grain_base.specs.CapBits.{set_of}
use Rattle.grain_code.specs.Span.{Span}
use Rattle.grain_base.specs.declared.caps.Caps.{Caps}
use Rattle.grain_lines.specs.Words.{Lacks}

all_digits : (word : List ℕ) → AllDigits 10 word → all_ascii_digits word ≡ true
all_digits [] digits = refl
all_digits (c ∷ cs) digits = tells_all_ascii_digits.more c cs (digit_from_value c digits.0) (all_digits cs digits.1)

digits_of_all : (word : List ℕ) → all_ascii_digits word ≡ true → AllDigits 10 word
digits_of_all [] all = tt
digits_of_all (c ∷ cs) all = let parts = tells_all_ascii_digits.parts c cs all in tells_digits.more c cs parts.0 (digits_of_all cs parts.1)

some_word : (word : List ℕ) → 0 < length word → is_word word ≡ true
some_word [] some = absurd (omega arith)
some_word (c ∷ cs) some = refl

word_some : (word : List ℕ) → is_word word ≡ true → 0 < length word
word_some [] is = absurd (false≢true is)
word_some (c ∷ cs) is = omega arith

u32_of-some : (word : List ℕ) → IsNumeral 10 word → digits_value 10 word < 2 ^ 32 → u32_of word ≡ Some (digits_value 10 word)
u32_of-some word numeral below =
    let digits = and_from (is_word word) (all_ascii_digits word) (some_word word numeral.0) (all_digits word numeral.1) in
    cond-true _ (Some (digits_value 10 word)) None (and_from (is_word word && all_ascii_digits word) _ digits (lt-ltb (digits_value 10 word) (2 ^ 32) below))

u32_of-none : (word : List ℕ) → (IsNumeral 10 word → digits_value 10 word < 2 ^ 32 → ⊥) → u32_of word ≡ None
u32_of-none word isnt = by_cases (cases_Bool test) where
  test : Bool
  test = is_word word && all_ascii_digits word && nat_lt (digits_value 10 word) (2 ^ 32)

  by_cases : (test ≡ true) ⊎ (test ≡ false) → u32_of word ≡ None
  by_cases (inl passes) =
      let first = and_parts (is_word word && all_ascii_digits word) _ passes in
      let second = and_parts (is_word word) (all_ascii_digits word) first.0 in
      absurd (isnt (word_some word second.0, digits_of_all word second.1) (ltb-true (digits_value 10 word) (2 ^ 32) first.1))
  by_cases (inr fails) = cond-false _ (Some (digits_value 10 word)) None fails

-- a word that isn't text spells no number
pub u32_of-bytes : (word : List ℕ) → (IsUtf8 word → ⊥) → u32_of word ≡ None
u32_of-bytes word isnt = u32_of-none word (λ numeral _. isnt (IsUtf8-from_ascii word (IsAscii-from_digits word numeral.1)))

no_plus : (word : List ℕ) → false ≡ starts_with eqb word (43 ∷ []) → without_leading_plus word ≡ word
no_plus [] starts = refl
no_plus (c ∷ cs) starts = by_cases (cases_Bool (eqb c 43)) where
  by_cases : (eqb c 43 ≡ true) ⊎ (eqb c 43 ≡ false) → without_leading_plus (c ∷ cs) ≡ c ∷ cs
  by_cases (inl plus) = absurd (false≢true (subst (λ d. false ≡ starts_with eqb (d ∷ cs) (43 ∷ [])) (eqb-true c 43 plus) starts))
  by_cases (inr other) = rw other refl

-- what std reads, where no sign stands in front
pub u32_of-read : {E : Type 0} (word : List ℕ) (read : Result ℕ E) → false ≡ starts_with eqb word (43 ∷ []) → ParsesUnsigned 32 10 word read → result_ok read ≡ u32_of word
u32_of-read word read starts parses = by_cases read (subst (λ ds. OkIff read (IsNumeral 10 ds × (digits_value 10 ds < 2 ^ 32)) (digits_value 10 ds)) (no_plus word starts) parses) where
  by_cases : {E : Type 0} (read : Result ℕ E) → OkIff read (IsNumeral 10 word × (digits_value 10 word < 2 ^ 32)) (digits_value 10 word) → result_ok read ≡ u32_of word
  by_cases (Ok number) h = ap Some h.1 ∙ sym (u32_of-some word h.0.0 h.0.1)
  by_cases (Err error) h = sym (u32_of-none word (λ numeral below. h (numeral, below)))

split_once : (word entry rest : List ℕ) → word ≡ entry ++ 58 ∷ rest → Lacks 58 entry → slice_split is_colon word ≡ entry ∷ slice_split is_colon rest
split_once word entry rest parts lacks = ap (slice_split is_colon) parts ∙ slice_split_at is_colon entry 58 rest lacks refl

pub split_never : (word : List ℕ) → Lacks 58 word → slice_split is_colon word ≡ word ∷ []
split_never word lacks = slice_split_none is_colon word lacks

split_twice : (word entry rest end declared : List ℕ) → word ≡ entry ++ 58 ∷ rest → Lacks 58 entry → rest ≡ end ++ 58 ∷ declared → Lacks 58 end
    → slice_split is_colon word ≡ entry ∷ end ∷ slice_split is_colon declared
split_twice word entry rest end declared parts lacks more end_lacks =
    split_once word entry rest parts lacks ∙ ap (λ xs. entry ∷ xs) (split_once rest end declared more end_lacks)

-- one colon is too few
pub too_few : (word entry rest : List ℕ) → word ≡ entry ++ 58 ∷ rest → Lacks 58 entry → Lacks 58 rest → chunk_of word ≡ None
too_few word entry rest parts lacks rest_lacks = ap chunk_by (split_once word entry rest parts lacks ∙ ap (λ xs. entry ∷ xs) (split_never rest rest_lacks))

-- two colons cut three parts
pub three : (word entry rest end declared : List ℕ) → word ≡ entry ++ 58 ∷ rest → Lacks 58 entry → rest ≡ end ++ 58 ∷ declared → Lacks 58 end → Lacks 58 declared
    → slice_split is_colon word ≡ entry ∷ end ∷ declared ∷ []
three word entry rest end declared parts lacks more end_lacks declared_lacks =
    split_twice word entry rest end declared parts lacks more end_lacks ∙ ap (λ xs. entry ∷ end ∷ xs) (split_never declared declared_lacks)

four : (a b c : List ℕ) (more : List (List ℕ)) → 0 < length more → chunk_by (a ∷ b ∷ c ∷ more) ≡ None
four a b c [] some = absurd (omega arith)
four a b c (d ∷ more) some = refl

-- three colons are too many
pub too_many : (word entry rest end declared third fourth : List ℕ) → word ≡ entry ++ 58 ∷ rest → Lacks 58 entry → rest ≡ end ++ 58 ∷ declared → Lacks 58 end
    → declared ≡ third ++ 58 ∷ fourth → Lacks 58 third → chunk_of word ≡ None
too_many word entry rest end declared third fourth parts lacks more end_lacks again third_lacks =
    ap chunk_by (split_twice word entry rest end declared parts lacks more end_lacks ∙ ap (λ xs. entry ∷ end ∷ xs) (split_once declared third fourth again third_lacks))
    ∙ four entry end third (slice_split is_colon fourth) (omega (arith, length-slice_split is_colon fourth))

-- what decodes into two bytes
pub decoded : {A E : Type 0} (done value : A) (bytes : Result (List ℕ) E) (out : List ℕ)
    → MatchResult bytes (λ found. (◌≡◌ {A = Result A E} (Ok value) (Ok done)) × (out ≡ found)) (λ e. ◌≡◌ {A = Result A E} (Ok value) (Err e)) → bytes ≡ Ok out
decoded done value (Ok found) out h = ap Ok (sym h.1)
decoded done value (Err e) out h = grind (arith, h)

-- a set of capabilities that is made of known bits
pub known_set : (found : Option Caps) (bits : ℕ) → IfSome found (λ caps. set_of caps ≡ bits) → (IsSome found ↔ (bits < 2 ^ 15)) → option_map set_of found ≡ if_known bits
known_set (Some caps) bits is known = ap Some is ∙ sym (cond-true _ (Some bits) None (lt-ltb bits (2 ^ 15) (known.0 refl)))
known_set None bits is known = by_cases (cases_Bool (nat_lt bits (2 ^ 15))) where
  by_cases : (nat_lt bits (2 ^ 15) ≡ true) ⊎ (nat_lt bits (2 ^ 15) ≡ false) → None ≡ if_known bits
  by_cases (inl below) = absurd (false≢true (known.1 (ltb-true bits (2 ^ 15) below)))
  by_cases (inr above) = sym (cond-false _ (Some bits) None above)

-- a digit is in one of three ranges, in whatever order these are tested
ranges : (figure upper lower : Bool) (a b c : ℕ)
    → ((figure || upper) || lower) ≡ is_some (if upper then Some a else if lower then Some b else if figure then Some c else None)
ranges true true lower a b c = refl
ranges true false true a b c = refl
ranges true false false a b c = refl
ranges false true lower a b c = refl
ranges false false true a b c = refl
ranges false false false a b c = refl

hex_digit_is : (byte : ℕ) → is_ascii_hexdigit byte ≡ is_hex_digit byte
hex_digit_is byte = ranges (is_in_range 48 57 byte) (is_in_range 65 70 byte) (is_in_range 97 102 byte) (byte - 55) (byte - 87) (byte - 48)

hex_digits_are : (word : List ℕ) → list_all is_ascii_hexdigit word ≡ list_all is_hex_digit word
hex_digits_are [] = refl
hex_digits_are (byte ∷ bytes) = rw (hex_digit_is byte) (rw (hex_digits_are bytes) refl)

-- digits in pairs decode, and nothing else
pub is_ok-decode_of : (word : List ℕ) → length word % 2 ≡ 0 → list_all is_ascii_hexdigit word ≡ is_ok (decode_of word)
is_ok-decode_of word even = hex_digits_are word ∙ by_cases (decode_of word) refl (cases_Bool (list_all is_hex_digit word)) where
  by_cases : (found : Result (List ℕ) FromHexError) → decode_of word ≡ found → (list_all is_hex_digit word ≡ true) ⊎ (list_all is_hex_digit word ≡ false)
      → list_all is_hex_digit word ≡ is_ok found
  by_cases found is (inl all) = let decodes = decode_of-digits word even (AllPass-from_list_all is_hex_digit word all) in
      all ∙ sym (ap is_ok (sym is ∙ decodes.1))
  by_cases (Ok bytes) is (inr other) = list_all-from_AllPass is_hex_digit word (decode_of-ok word bytes is).1
  by_cases (Err error) is (inr other) = other

-- no digits spell no bytes
pub hex_of-empty : (word : List ℕ) → true ≡ eqb (length word) 0 → hex_of word ≡ Some []
unfolding decode_pairs
hex_of-empty [] e = refl
hex_of-empty (byte ∷ bytes) e = absurd (grind (arith, nat_tests, e))

-- nor does `-`
pub hex_of-dash : (word : List ℕ) → true ≡ bytes_eq word (codes "-") → hex_of word ≡ Some []
hex_of-dash word is = cond-true _ (Some []) (result_ok (decode_of word)) (sym is)

-- what is no `-` and decodes, spells as many bytes as it has pairs of digits
pub spells_bytes : (word : List ℕ) → false ≡ eqb (length word) 0 → false ≡ bytes_eq word (codes "-") → true ≡ is_ok (decode_of word) → SpellsBytes word
spells_bytes word some other decodes = by_cases (decode_of word) refl decodes where
  spells : hex_of word ≡ result_ok (decode_of word)
  spells = cond-false _ (Some []) (result_ok (decode_of word)) (sym other)

  by_cases : (found : Result (List ℕ) FromHexError) → decode_of word ≡ found → true ≡ is_ok found → SpellsBytes word
  by_cases (Ok bytes) is ok = rw (spells ∙ ap result_ok is) (let twice = (decode_of-ok word bytes is).2 in grind (arith, some, twice))
  by_cases (Err error) is ok = absurd (false≢true (sym ok))

-- words that spell chunks spell as many as there are words
pub spell_chunks : (fields : List (List ℕ)) → 0 < length fields → true ≡ is_some (chunks_spelled fields) → SpellChunks fields
spell_chunks [] some spell = absurd (omega arith)
spell_chunks (word ∷ more) some spell = first (chunk_of word) (chunks_spelled more) spell where
  both : Option Span → Option (List Span) → Option (List Span)
  both chunk chunks = option_and_then (λ c. option_map (λ cs. c ∷ cs) chunks) chunk

  first : (chunk : Option Span) (chunks : Option (List Span)) → true ≡ is_some (both chunk chunks) → IsSomeAnd (both chunk chunks) (λ cs. 0 < length cs)
  first (Some chunk) (Some chunks) spell = omega arith
  first (Some chunk) None spell = absurd (false≢true (sym spell))
  first None chunks spell = absurd (false≢true (sym spell))
