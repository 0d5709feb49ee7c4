-- Programs that are verified, and that stay so.
use Rattle.std.proofs.Common.{◌≡◌, ℕ, zero, suc, List, [], ◌∷◌, map, subst, arith}
use Rattle.std.specs.List.{All, AllZip}
use Rattle.grain_code.specs.Span.{Span}
use Rattle.grain_rules.specs.Accepted.{AreDeepest, AreTyped, ChunkPasses, IsAccepted}
use Rattle.grain_rules.specs.Code.{Bytecode, coded}
use Rattle.grain_rules.specs.Typing.{HasTyping}
use Rattle.grain_rules.proofs.Whole.{safe_all}
use Rattle.grain.specs.Program.{Program, chunks_of, declared_by, input_of}
use Rattle.grain.specs.Tightened.{IsTightened}
use Rattle.grain.specs.Verified.{IsVerified}
use Rattle.grain.proofs.Inputs.{accepted_finds}

-- chunks that pass have typings within what they declare
typed_within : (code : Bytecode) (chunks : List Span) → All (ChunkPasses code) chunks → AllZip (HasTyping (coded code)) chunks (map (λ chunk. chunk.max_stack) chunks)
typed_within code [] all = tt
typed_within code (c ∷ cs) all = ((all 0 c (omega arith)).typed, typed_within code cs (λ k d l. all (suc k) d (omega arith)))

-- an accepted program with its typings and depths
pub verified : (p : Program) (depths : List ℕ) → IsAccepted (input_of p) → AreTyped (input_of p) depths → AreDeepest (input_of p) depths
    → IsVerified (record { program = p; depths = depths })
verified p depths accepted typed deepest = record {
  accepted = accepted;
  found = accepted_finds p accepted;
  typed = typed;
  deepest = deepest;
  safe = safe_all (input_of p).code (chunks_of p) depths accepted.chunks deepest;
}

-- a tightened program whose chunks declare their depths
pub tightened_verified : (old new : Program) (depths : List ℕ) → IsTightened old new → declared_by new ≡ depths → IsVerified (record { program = new; depths = depths })
tightened_verified old new depths t e =
    verified new depths t.again
    (subst (AreTyped (input_of new)) e (typed_within (input_of new).code (chunks_of new) t.again.chunks))
    (subst (AreDeepest (input_of new)) e t.same)
