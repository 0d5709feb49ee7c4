-- Chunks that declare their numbers.
use Rattle.std.specs.Prelude.{◌≡◌, ℕ, List, map}
use Rattle.grain_rules.specs.Accepted.{IsAccepted}
use Rattle.grain_code.specs.Span.{Span, undeclared_chunk}
use Rattle.grain_flat.specs.Answers.{Accepts}
use Rattle.grain_flat.specs.Flat.{Rest, Whole, flat_input, rest_input}
use Rattle.grain_flat.specs.declared.records.CPools.{CPools}

-- what the chunks declare
abbrev pub declared : List Span → List ℕ
declared chunks = map (λ chunk. chunk.max_stack) chunks

-- these chunks are those, except that they declare these numbers
pub record AreDeclaring (old new : List Span) (numbers : List ℕ) : Type 0 where
  pub numbers_are : declared new ≡ numbers
  pub rest : map undeclared_chunk new ≡ map undeclared_chunk old

-- All with this flat form was accepted, and each chunk declares its number now, all else being as it was. It is accepted
-- again.
pub record Tightens (caps : ℕ) (bytes : List ℕ) (old new : List Span) (p : CPools) : Type 0 where
  pub accepts : Accepts caps bytes old p (declared new)
  pub declaring : AreDeclaring old new (declared new)
  pub again : (whole : Whole p) → IsAccepted (flat_input caps bytes new p whole)
  pub rest_again : (rest : Rest p) → IsAccepted (rest_input caps bytes new p rest)
