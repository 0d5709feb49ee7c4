-- The place in the source text that a position names.
use Rattle.std.specs.Prelude.{ℕ, Bool, List, ◌++◌, Option, Some, None, codes, nat_eq, cond}
use Rattle.std.specs.Fmt.{decimal}
use Rattle.grain_base.specs.declared.position.Position.{Position}

-- whether a position is no place
abbrev pub is_none : Position → Bool
is_none p = nat_eq p.line 0

-- a line and a column
abbrev pub place_of : Position → Option (ℕ × ℕ)
place_of p = cond (is_none p) None (Some (p.line, p.column))

abbrev pub line_of : Position → Option ℕ
line_of p = cond (is_none p) None (Some p.line)

-- the column, which none is where it is 0
abbrev pub column_of : Position → Option ℕ
column_of p = cond (nat_eq p.column 0) None (Some p.column)

-- what is printed of a position
abbrev pub position_text : Position → List ℕ
position_text p = cond (is_none p) (codes "none") (decimal p.line ++ (codes ":" ++ decimal p.column))
