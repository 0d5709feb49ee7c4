-- What of chunks and functions is kept: all.
use Rattle.std.specs.Prelude.{ℕ, ◌^◌, List, map, option_map, Option, refl}
use Rattle.grain_code.specs.Span.{Span}
use Rattle.grain_code.specs.declared.function.Function.{Function}
use Rattle.grain_base.specs.declared.access.FnAccess.{FnAccess}
use Rattle.grain_base.specs.declared.access.FnAccess.TheVariants.{Public, Private}
use Rattle.grain_format.specs.Formats.{Format, number_below, tag_below, both, viewed_as, counted_list, optional}

abbrev pub span_parts : Span → ℕ × (ℕ × ℕ)
span_parts s = (s.entry, (s.end, s.max_stack))

abbrev pub span_of_parts : ℕ × (ℕ × ℕ) → Span
span_of_parts p = record { entry = p.0; end = p.1.0; max_stack = p.1.1 }

abbrev pub chunk_format : Format Span
chunk_format = viewed_as span_of_parts span_parts (λ p. refl) (λ s. refl) (both (number_below (2 ^ 32)) (both (number_below (2 ^ 32)) (number_below (2 ^ 16))))

abbrev pub access_tag : FnAccess → ℕ
access_tag Public = 0
access_tag Private = 1

abbrev pub FunctionParts : Type 0
FunctionParts = ℕ × (List ℕ × (ℕ × (Option ℕ × Span)))

abbrev pub function_parts : Function → FunctionParts
function_parts f = (f.name, (map (λ n. n) f.params.items, (access_tag f.access, (option_map (λ n. n) f.this_type, f.chunk))))

abbrev pub function_format : Format FunctionParts
function_format = both (number_below (2 ^ 32)) (both (counted_list (number_below (2 ^ 32))) (both (tag_below 2) (both (optional (number_below (2 ^ 32))) chunk_format)))
