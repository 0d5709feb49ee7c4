-- What chunks declare once some of them declare their depths.
use Rattle.std.specs.Prelude.{◌≡◌, ◌<◌, ◌⊎◌, ℕ, List, [], length, slice_index}
use Rattle.std.specs.List.{Contains}
use Rattle.grain_code.specs.Span.{Span}
use Rattle.grain_rules.specs.Accepted.{AreDeepest}
use Rattle.grain.specs.Program.{Program, declared_by, input_of}

-- the chunks of these indices declare their depths, and the others what they declared before
pub record DeclareDepths (indices depths old new : List ℕ) : Type 0 where
  pub count : length new ≡ length old
  pub opened : (i : ℕ) → Contains indices i → i < length old → slice_index new i ≡ slice_index depths i
  pub others : (i : ℕ) → (Contains indices i → ⊥) → slice_index new i ≡ slice_index old i

abbrev pub max_stack_of : Span → ℕ
max_stack_of chunk = chunk.max_stack

-- No chunk is open, and all declare what they did. Or each chunk of the program has this depth, and the open ones now declare theirs.
abbrev pub HasDepths : List ℕ → Program → Program → Type 0
HasDepths indices old new =
    ((indices ≡ []) × (declared_by new ≡ declared_by old)) ⊎ ((depths : List ℕ) × AreDeepest (input_of old) depths × DeclareDepths indices depths (declared_by old) (declared_by new))
