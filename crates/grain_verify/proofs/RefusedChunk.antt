-- A result with the index of the chunk that is refused.
use Rattle.std.proofs.Common.{◌≡◌, ◌⊎◌, ℕ, inl, inr, IfErr, IfOk, OnOk, None, Ok, Err, Option, Result, Vec, refl, subst, sym}
use Rattle.std.specs.List.{All, AllZip}
use Rattle.std.specs.declared.alloc.Global.{Global}
use Rattle.grain_rules.specs.Accepted.{ChunkPasses, Input}
use Rattle.grain_rules.specs.Code.{coded}
use Rattle.grain_rules.specs.Flaw.{Flaw, FlawAt, IsFirstFlaw, IsFlawOfChunks}
use Rattle.grain_rules.specs.Typing.{HasTyping, IsDeepest}
use Rattle.grain_rules.specs.Verdict.{IsVerdict, ReachesChunks}
use Rattle.grain_rules.specs.declared.error.VerifyError.{VerifyError}
use Rattle.grain_rules.specs.declared.error.VerifyError.TheVariants.{OutOfMemory}
use Rattle.grain_rules.proofs.Verdicts.{after_chunks}
use Rattle.grain_verify.specs.Refusals.{IsChunkRefusal, IsLocatedRefusal, without_chunk}
use Rattle.grain_verify.specs.declared.refusal.Refusal.{Refusal}

-- the tests before the chunks pass, and the chunks decide
pub located_verdict : (i : Input) (result : Result (Vec ℕ Global) Refusal) → ReachesChunks i → OnOk result (All (ChunkPasses i.code) i.chunks)
    → IfOk result (λ v. AllZip (HasTyping (coded i.code)) i.chunks v.items) → IfOk result (λ v. AllZip (IsDeepest (coded i.code)) i.chunks v.items)
    → (All (ChunkPasses i.code) i.chunks → IfErr result (λ r. r.error ≡ OutOfMemory)) → IfErr result (IsChunkRefusal i.code i.chunks) → IsVerdict i (without_chunk result)
located_verdict i (Ok numbers) before passes typed deepest accepts flaws = after_chunks i (Ok numbers) before passes typed deepest (λ all. tt) tt
located_verdict i (Err r) before passes typed deepest accepts flaws =
    after_chunks i (Err r.error) before tt tt tt accepts (elim flaws as (λ _. (r.error ≡ OutOfMemory) ⊎ IsFirstFlaw i.code i.chunks r.error) [ inl m ↦ inl m.error | inr f ↦ inr f.0 ])

at_chunk : (i : Input) (r : Refusal) → ReachesChunks i → IsChunkRefusal i.code i.chunks r → IsLocatedRefusal i r
at_chunk i r before (inl m) = inl m
at_chunk i r before (inr (flaw, is)) =
    let whole : IsFlawOfChunks i r.error = record { constants = before.constants; code = before.code; functions = before.functions; chunk = flaw } in
    inr (subst (λ (chunk : Option ℕ). FlawAt i chunk r.error) (sym is) (whole, refl))

pub located_chunks : (i : Input) (result : Result (Vec ℕ Global) Refusal) → ReachesChunks i → IfErr result (IsChunkRefusal i.code i.chunks) → IfErr result (IsLocatedRefusal i)
located_chunks i (Ok numbers) before flaws = tt
located_chunks i (Err r) before flaws = at_chunk i r before flaws

-- a test before the chunks fails
pub located_before : (i : Input) (e : VerifyError) → (ReachesChunks i → ⊥) → Flaw i e → FlawAt i None e
located_before i e refused flaw = (flaw, λ (h : IsFlawOfChunks i e). refused (record { constants = h.constants; code = h.code; functions = h.functions }))

pub located_memory : (i : Input) (result : Result (Vec ℕ Global) Refusal) → ReachesChunks i → IfErr result (λ r. r.error ≡ OutOfMemory → ReachesChunks i)
located_memory i (Ok numbers) before = tt
located_memory i (Err r) before = λ m. before
