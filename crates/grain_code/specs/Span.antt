-- A span of the code, and the operands that it declares.
use Rattle.std.specs.Prelude.{ℕ, ◌&&◌, List, [], cond, length, nat_le, take}
use Rattle.std.specs.List.{slice_range}

pub record Span : Type 0 where
  pub entry : ℕ
  pub end : ℕ
  pub max_stack : ℕ

-- the part of the code, which is empty if the span is not in the code
abbrev pub body : Span → List ℕ → List ℕ
body s code = cond (nat_le s.entry s.end && nat_le s.end (length code)) (slice_range code s.entry s.end) []

-- the code up to the end of the span, which is empty where the code ends before
abbrev pub front : Span → List ℕ → List ℕ
front s code = cond (nat_le s.end (length code)) (take s.end code) []

-- the chunk with nothing declared
abbrev pub undeclared_chunk : Span → Span
undeclared_chunk chunk = record chunk { max_stack = 0 }
