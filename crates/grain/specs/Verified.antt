-- What an accepted program is, with the depths of its chunks.
use Rattle.std.specs.Prelude.{ℕ, List}
use Rattle.grain_rules.specs.Accepted.{AreDeepest, AreSafe, AreTyped, IsAccepted}
use Rattle.grain.specs.Lookups.{FindsIndices}
use Rattle.grain.specs.Program.{Program, input_of}

-- what contracts see of one: the program, and a depth for each of its chunks
pub record Verified : Type 0 where
  pub program : Program
  pub depths : List ℕ

-- The program is accepted, and each index of its instructions is found. Each chunk has a typing within its depth, which is the
-- greatest operand count that is reached. No kept run of a chunk lacks anything or has more operands, and one has as many.
pub record IsVerified (v : Verified) : Type 0 where
  pub accepted : IsAccepted (input_of v.program)
  pub found : FindsIndices v.program
  pub typed : AreTyped (input_of v.program) v.depths
  pub deepest : AreDeepest (input_of v.program) v.depths
  pub safe : AreSafe (input_of v.program) v.depths
