-- What a refusal says of the tests before the chunks.
use Rattle.std.proofs.Common.{◌≡◌, ◌≢◌, ◌⊎◌, ℕ, [], Option, None, Some, Ok, Err, inl, inr, refl, subst, Vec}
use Rattle.std.specs.List.{AllZip}
use Rattle.std.specs.declared.alloc.Global.{Global}
use Rattle.grain_explain.specs.declared.refusal.ExplainedChunk.{ExplainedChunk}
use Rattle.grain_explain.specs.Explaining.{IsExact, IsExplained}
use Rattle.grain_explain.specs.declared.refusal.ExplainError.{ExplainError}
use Rattle.grain_explain.specs.declared.refusal.ExplainError.TheVariants.{BadCode}
use Rattle.grain_explain.specs.declared.refusal.ExplainError.TheVariants as explain
use Rattle.grain_rules.specs.Accepted.{Input, IsAccepted}
use Rattle.grain_rules.specs.Flaw.{Flaw, FlawAt, IsFlawOfChunks, of_chunk, of_code, of_constant, of_functions}
use Rattle.grain_rules.specs.Verdict.{IsVerdict, ReachesChunks}
use Rattle.grain_rules.specs.declared.error.VerifyError.{VerifyError}
use Rattle.grain_rules.specs.declared.error.VerifyError.TheVariants.{OutOfMemory}
use Rattle.grain_rules.proofs.Whole.{none_asks, no_code_flaw}
use Rattle.grain_verify.specs.Refusals.{IsLocatedRefusal}
use Rattle.grain_verify.specs.declared.refusal.Refusal.{Refusal}
use Rattle.grain.specs.Explanations.{IsExplanation}

-- a flaw that is none of the chunks is one of a test before them
none_reached : (i : Input) (e : VerifyError) → Flaw i e → (IsFlawOfChunks i e → ⊥) → ReachesChunks i → ⊥
none_reached i e (of_constant {artifact} {absent} is asks) none r = none_asks i.code.setting.caps i.consts absent.0 r.constants asks
none_reached i e (of_code pass f) none r = no_code_flaw i.code.setting i.code.bytes e r.code f
none_reached i e (of_functions is asks) none r = asks.refused (r.functions asks.functions)
none_reached i e (of_chunk f) none r = none f

-- if a refusal names no chunk, and memory didn't run out, no chunk is explained
pub none_explained : (i : Input) (r : Refusal) (chunks : Vec ExplainedChunk Global) → r.chunk ≡ None → r.error ≢ OutOfMemory → IsVerdict i (Err r.error)
    → IsLocatedRefusal i r → chunks.items ≡ [] → IsExplanation i (record { verdict = Err r; chunks = chunks })
none_explained i r chunks at known verdict (inl wants) empty = absurd (known wants.error)
none_explained i r chunks at known verdict (inr flaw) empty =
    let there : FlawAt i None r.error = subst (λ p. FlawAt i p r.error) at flaw in
    let never : ReachesChunks i → ⊥ = none_reached i r.error there.0 there.1 in record {
      verdict = verdict;
      located = flaw;
      explained = λ reaches. absurd (never reaches);
      exact = λ reaches. absurd (never reaches);
      none = λ _. empty;
    }

none_some : (o : Option ℕ) (p : ℕ) → o ≡ None → o ≡ Some p → ⊥
none_some o p none some = cc

-- the tests before the chunks pass if the program is accepted
pub accepted_reaches : (i : Input) → IsAccepted i → ReachesChunks i
accepted_reaches i a = record { constants = a.constants; code = a.code; functions = a.functions }

-- and if a refusal names a chunk
pub located_reaches : (i : Input) (r : Refusal) (p : ℕ) → r.chunk ≡ Some p → IsLocatedRefusal i r → ReachesChunks i
located_reaches i r p at (inl wants) = absurd (none_some r.chunk p wants.chunk at)
located_reaches i r p at (inr flaw) =
    let there : FlawAt i (Some p) r.error = subst (λ p. FlawAt i p r.error) at flaw in
    let f = there.0 in record { constants = f.constants; code = f.code; functions = f.functions }

-- and each chunk is explained
pub located_explained : (i : Input) (r : Refusal) (p : ℕ) (chunks : Vec ExplainedChunk Global) → r.chunk ≡ Some p → IsVerdict i (Err r.error) → IsLocatedRefusal i r
    → AllZip (IsExplained i.code) i.chunks chunks.items → AllZip (IsExact i.code) i.chunks chunks.items
    → IsExplanation i (record { verdict = Err r; chunks = chunks })
located_explained i r p chunks at verdict (inl wants) explained exact = absurd (none_some r.chunk p wants.chunk at)
located_explained i r p chunks at verdict (inr flaw) explained exact =
    let there : FlawAt i (Some p) r.error = subst (λ p. FlawAt i p r.error) at flaw in
    let f = there.0 in record {
      verdict = verdict;
      located = flaw;
      explained = λ _. explained;
      exact = λ _. exact;
      none = λ never. absurd (never (record { constants = f.constants; code = f.code; functions = f.functions }));
    }

-- and if the program is accepted
pub accepted_explained : (i : Input) (numbers : Vec ℕ Global) (chunks : Vec ExplainedChunk Global) → IsVerdict i (Ok numbers)
    → AllZip (IsExplained i.code) i.chunks chunks.items → AllZip (IsExact i.code) i.chunks chunks.items
    → IsExplanation i (record { verdict = Ok numbers; chunks = chunks })
accepted_explained i numbers chunks verdict explained exact =
    let a : IsAccepted i = verdict.accepted in record {
      verdict = verdict;
      located = tt;
      explained = λ _. explained;
      exact = λ _. exact;
      none = λ never. absurd (never (record { constants = a.constants; code = a.code; functions = a.functions }));
    }

-- what isn't bad code is out of memory
pub only_memory : (e : ExplainError) → (e ≡ BadCode → ⊥) → e ≡ explain.OutOfMemory
only_memory BadCode none = absurd (none refl)
only_memory explain.OutOfMemory none = refl

-- a flaw of a chunk, or of none, is one
pub flaw_at : (i : Input) (chunk : Option ℕ) (e : VerifyError) → FlawAt i chunk e → Flaw i e
flaw_at i None e h = h.0
flaw_at i (Some chunk) e h = of_chunk h.0

-- for such a refusal memory ran out, or there is a flaw
pub located_flaw : (i : Input) (r : Refusal) → IsLocatedRefusal i r → (r.error ≡ OutOfMemory) ⊎ Flaw i r.error
located_flaw i r (inl wants) = inl wants.error
located_flaw i r (inr flaw) = inr (flaw_at i r.chunk r.error flaw)
