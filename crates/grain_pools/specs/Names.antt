-- Names: one text after another, and where each begins.
use Rattle.std.specs.Prelude.{◌≡◌, ℕ, ◌+◌, ◌-◌, List, [], ◌∷◌, ◌||◌, ◌++◌, length, map, take, drop, true, cond, nat_lt, nat_eq, Option, Some, None, codes, decimal}
use Rattle.std.specs.Borrow.{Bor}
use Rattle.std.specs.List.{concat, list_all}
use Rattle.std.specs.Option.{option_or}
use Rattle.std.specs.Str.{is_utf8}
use Rattle.grain_pools.specs.declared.strings.BadTable.{BadTable}
use Rattle.grain_pools.specs.declared.strings.BadTable.TheVariants.{NoTerminator, SpanOutOfRange, NotUtf8, TrailingBytes}
use Rattle.grain_pools.specs.declared.strings.BadTable.TheVariants as bad_table
use Rattle.grain_pools.specs.declared.strings.StringsError.{StringsError}
use Rattle.grain_pools.specs.declared.strings.StringsError.TheVariants as strings_error

-- the bytes of each text
abbrev pub texts : List (Bor (List ℕ)) → List (List ℕ)
texts names = map (λ n. n.now) names

-- the bytes from one start to the next
abbrev pub span : List ℕ → ℕ → ℕ → List ℕ
span blob from to = take (to - from) (drop from blob)

-- the texts between the starts, the first of which is given
abbrev pub names_from : List ℕ → ℕ → List ℕ → List (List ℕ)
names_from blob from [] = []
names_from blob from (to ∷ starts) = span blob from to ∷ names_from blob to starts

abbrev pub names_in : List ℕ → List ℕ → List (List ℕ)
names_in blob [] = []
names_in blob (from ∷ starts) = names_from blob from starts

-- where each name begins, and at last where the last one ends, if the first begins at `from`
abbrev pub starts_of : ℕ → List (List ℕ) → List ℕ
starts_of from [] = from ∷ []
starts_of from (name ∷ names) = from ∷ starts_of (from + length name) names

-- a blob and starts are those of the names between the starts, and each name is text
pub record IsTable (blob starts : List ℕ) : Type 0 where
  pub starts_are : starts ≡ starts_of 0 (names_in blob starts)
  pub blob_is : blob ≡ concat (names_in blob starts)
  pub texts : list_all is_utf8 (names_in blob starts) ≡ true

-- what is wrong with a span
abbrev pub span_flaw : List ℕ → ℕ → ℕ → Option BadTable
span_flaw blob from to =
    cond (nat_lt to from || nat_lt (length blob) to) (Some (SpanOutOfRange from to))
    (cond (is_utf8 (span blob from to)) None (Some (NotUtf8 from)))

-- the first flaw of the starts after `from`
abbrev pub flaw_from : List ℕ → ℕ → List ℕ → Option BadTable
flaw_from blob from [] = cond (nat_eq from (length blob)) None (Some TrailingBytes)
flaw_from blob from (to ∷ starts) = option_or (span_flaw blob from to) (flaw_from blob to starts)

-- the first flaw of bytes and starts
abbrev pub first_flaw : List ℕ → List ℕ → Option BadTable
first_flaw blob [] = Some NoTerminator
first_flaw blob (from ∷ starts) = cond (nat_eq from 0) (flaw_from blob from starts) (Some NoTerminator)

-- what is printed of a flaw
abbrev pub bad_table_text : BadTable → List ℕ
bad_table_text bad_table.NoTerminator = codes "starts of names don't begin with 0"
bad_table_text (bad_table.SpanOutOfRange from to) =
    codes "name from " ++ (decimal from ++ (codes " to " ++ (decimal to ++ codes " runs backwards or past the bytes")))
bad_table_text (bad_table.NotUtf8 at) = codes "name at " ++ (decimal at ++ codes " is not UTF-8")
bad_table_text bad_table.TrailingBytes = codes "bytes are left behind the last name"
bad_table_text bad_table.OutOfMemory = codes "out of memory"

-- what is printed if texts make no names
abbrev pub strings_error_text : StringsError → List ℕ
strings_error_text strings_error.TooLong = codes "names have more than 4294967295 bytes"
strings_error_text strings_error.OutOfMemory = codes "out of memory"
