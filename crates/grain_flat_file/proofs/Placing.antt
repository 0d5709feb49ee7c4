-- The rows that say where their bytes begin, and one more.
use Rattle.std.proofs.Common.{◌≡◌, ℕ, ◌+◌, ◌<◌, List, [], ◌∷◌, ◌++◌, length, take, drop, set, get_or, append_assoc}
use Rattle.std.proofs.Math.Numerals.{lt-add-one}
use Rattle.std.proofs.lemmas.List.{drop-set-lt, drop_more, take_more_set}
use Rattle.grain_flat_file.specs.Values.{row_bytes, placed_rows, placed_row}
use Rattle.grain_flat_file.specs.declared.records.CValue.{CValue}

pub placed_next : (rows : List CValue) (i from next : ℕ) (row none : CValue) → i < length rows → row ≡ placed_row from (get_or rows i none) → next ≡ from + row_bytes (get_or rows i none)
    → take (i + 1) (set rows i row) ++ placed_rows next (drop (i + 1) (set rows i row)) ≡ take i rows ++ placed_rows from (drop i rows)
placed_next rows i from next row none inside is more =
    let here = get_or rows i none in
    rw (take_more_set rows i row inside, drop-set-lt (i + 1) rows i row (lt-add-one i), drop_more rows i none inside, is, more)
    (append_assoc (take i rows) (placed_row from here ∷ []) (placed_rows (from + row_bytes here) (drop (i + 1) rows)))
