-- Reading a value.
use Rattle.std.specs.Prelude.{ℕ, ℤ, pos, negsuc, zero, suc, ◌/◌, ◌%◌, ◌^◌, ◌==◌, if◌then◌else◌, true, false, List, [], ◌∷◌, Option, Some, None, Result, Ok, Err}
use Rattle.std.proofs.Math.Utf8.{scalar}
use Rattle.grain_format.specs.declared.error.FieldFault.TheVariants.{Truncated, UnknownTag, KeyOrder, TooDeep, NotCharacter}
use Rattle.grain_format.specs.Reading.{LocatedFault, ◌>>=◌}
use Rattle.grain_format.specs.Numbers.{number_at, below_at}
use Rattle.grain_format.specs.Texts.{bytes_at, text_at}
use Rattle.grain_format.specs.Lists.{checked_at, seen_at, both_at, counted_at}
use Rattle.grain_format.specs.Form.{Form, unit, boolean, integer, character, text, range, range_inclusive, array, blob, object_map, fn_ptr, shared, float, forms_of, form_entries_of, comes_after}

-- the signed number that is spelled so
abbrev pub signed : ℕ → ℤ
signed n = if n % 2 == 0 then pos (n / 2) else negsuc (n / 2)

-- a character, by its number
abbrev pub character_at : List ℕ → Result (ℕ × List ℕ) LocatedFault
character_at = checked_at scalar NotCharacter (below_at (2 ^ 32))

abbrev pub integer_at : List ℕ → Result (ℤ × List ℕ) LocatedFault
integer_at = seen_at signed number_at

-- a number of entries, whose keys ascend after the last one
unfoldable pub entries_at : (List ℕ → Result (Form × List ℕ) LocatedFault) → ℕ → Option (List ℕ) → List ℕ → Result (List (List ℕ × Form) × List ℕ) LocatedFault
entries_at value zero last bytes = Ok ([], bytes)
entries_at value (suc n) last bytes =
    text_at bytes >>= λ key.
    (if comes_after last key.0 then (value key.1 >>= λ x. (entries_at value n (Some key.0) x.1 >>= λ es. Ok ((key.0, x.0) ∷ es.0, es.1))) else Err (KeyOrder, bytes))

abbrev pub counted_entries_at : (List ℕ → Result (Form × List ℕ) LocatedFault) → List ℕ → Result (List (List ℕ × Form) × List ℕ) LocatedFault
counted_entries_at value bytes = number_at bytes >>= λ n. entries_at value n.0 None n.1

-- a function pointer: its name, and the values that are bound
abbrev pub pointer_at : (List ℕ → Result (Form × List ℕ) LocatedFault) → List ℕ → Result (Form × List ℕ) LocatedFault
pointer_at value = seen_at (λ r. fn_ptr r.0 (forms_of r.1)) (both_at text_at (counted_at value))

-- behind a tag, if the values in it are read so
unfoldable pub behind_tag : (List ℕ → Result (Form × List ℕ) LocatedFault) → ℕ → List ℕ → Result (Form × List ℕ) LocatedFault
behind_tag value zero bytes = Ok (unit, bytes)
behind_tag value (suc zero) bytes = Ok (boolean false, bytes)
behind_tag value (suc (suc zero)) bytes = Ok (boolean true, bytes)
behind_tag value (suc (suc (suc zero))) bytes = seen_at integer integer_at bytes
behind_tag value (suc (suc (suc (suc zero)))) bytes = seen_at character character_at bytes
behind_tag value (suc (suc (suc (suc (suc zero))))) bytes = seen_at text text_at bytes
behind_tag value (suc (suc (suc (suc (suc (suc zero)))))) bytes = seen_at (λ r. range r.0 r.1) (both_at integer_at integer_at) bytes
behind_tag value (suc (suc (suc (suc (suc (suc (suc zero))))))) bytes = seen_at (λ r. range_inclusive r.0 r.1) (both_at integer_at integer_at) bytes
behind_tag value (suc (suc (suc (suc (suc (suc (suc (suc zero)))))))) bytes = seen_at (λ xs. array (forms_of xs)) (counted_at value) bytes
behind_tag value (suc (suc (suc (suc (suc (suc (suc (suc (suc zero))))))))) bytes = seen_at blob bytes_at bytes
behind_tag value (suc (suc (suc (suc (suc (suc (suc (suc (suc (suc zero)))))))))) bytes = seen_at (λ es. object_map (form_entries_of es)) (counted_entries_at value) bytes
behind_tag value (suc (suc (suc (suc (suc (suc (suc (suc (suc (suc (suc zero))))))))))) bytes = pointer_at value bytes
behind_tag value (suc (suc (suc (suc (suc (suc (suc (suc (suc (suc (suc (suc zero)))))))))))) bytes = seen_at shared value bytes
behind_tag value (suc (suc (suc (suc (suc (suc (suc (suc (suc (suc (suc (suc (suc zero))))))))))))) bytes = seen_at float number_at bytes
behind_tag value (suc (suc (suc (suc (suc (suc (suc (suc (suc (suc (suc (suc (suc (suc n)))))))))))))) bytes = Err (UnknownTag, (suc (suc (suc (suc (suc (suc (suc (suc (suc (suc (suc (suc (suc (suc n)))))))))))))) ∷ bytes)

-- within a depth
unfoldable pub value_at : ℕ → List ℕ → Result (Form × List ℕ) LocatedFault
value_at zero bytes = Err (TooDeep, bytes)
value_at (suc depth) [] = Err (Truncated, [])
value_at (suc depth) (tag ∷ bytes) = behind_tag (value_at depth) tag bytes
