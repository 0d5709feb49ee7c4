-- A verdict, put together.
use Rattle.std.proofs.Common.{◌≡◌, ◌⊎◌, ℕ, inl, inr, IfErr, IfOk, OnOk, Ok, Err, Result, Vec, refl}
use Rattle.std.specs.List.{All, AllZip}
use Rattle.std.specs.declared.alloc.Global.{Global}
use Rattle.grain_rules.specs.Accepted.{ChunkPasses, Input, IsAccepted}
use Rattle.grain_rules.specs.Code.{coded}
use Rattle.grain_rules.specs.Flaw.{Flaw, IsFirstFlaw}
use Rattle.grain_rules.specs.Typing.{HasTyping, IsDeepest}
use Rattle.grain_rules.specs.Verdict.{IsVerdict, ReachesChunks}
use Rattle.grain_rules.specs.declared.error.VerifyError.{VerifyError}
use Rattle.grain_rules.specs.declared.error.VerifyError.TheVariants.{OutOfMemory}
use Rattle.grain_rules.proofs.Whole.{chunk_flawed, memory_no_flaw, safe_all}

-- a test before the chunks fails
pub refused_before : (i : Input) (e : VerifyError) → (IsAccepted i → ⊥) → Flaw i e → IsVerdict i (Err e)
refused_before i e refused flaw = record {
  accepted = tt;
  typed = tt;
  deepest = tt;
  safe = tt;
  accepts = λ a. absurd (refused a);
  flaws = inr flaw;
}

-- they pass, and the chunks decide
pub after_chunks : (i : Input) (result : Result (Vec ℕ Global) VerifyError) → ReachesChunks i → OnOk result (All (ChunkPasses i.code) i.chunks)
    → IfOk result (λ v. AllZip (HasTyping (coded i.code)) i.chunks v.items) → IfOk result (λ v. AllZip (IsDeepest (coded i.code)) i.chunks v.items)
    → (All (ChunkPasses i.code) i.chunks → IfErr result (λ e. e ≡ OutOfMemory)) → IfErr result (λ e. (e ≡ OutOfMemory) ⊎ IsFirstFlaw i.code i.chunks e) → IsVerdict i result
after_chunks i (Ok numbers) before passes typed deepest accepts flaws = record {
  accepted = record { constants = before.constants; code = before.code; functions = before.functions; chunks = passes };
  typed = typed;
  deepest = deepest;
  safe = safe_all i.code i.chunks numbers.items passes deepest;
  accepts = λ a. tt;
  flaws = tt;
}
after_chunks i (Err e) before passes typed deepest accepts flaws = record {
  accepted = tt;
  typed = tt;
  deepest = tt;
  safe = tt;
  accepts = λ a. accepts a.chunks;
  flaws = elim flaws as (λ _. (e ≡ OutOfMemory) ⊎ Flaw i e) [
    | inl m ↦ inl m
    | inr f ↦ inr (chunk_flawed i e before.constants before.code before.functions f)
  ];
}

-- only after these tests memory is allocated
pub memory_before : (i : Input) (e : VerifyError) → Flaw i e → e ≡ OutOfMemory → ReachesChunks i
memory_before i e flaw m = absurd (memory_no_flaw i e m flaw)

pub memory_after : (i : Input) (result : Result (Vec ℕ Global) VerifyError) → ReachesChunks i → IfErr result (λ e. e ≡ OutOfMemory → ReachesChunks i)
memory_after i (Ok numbers) before = tt
memory_after i (Err e) before = λ m. before

-- a lack of memory says nothing
pub out_of_memory : (i : Input) → IsVerdict i (Err OutOfMemory)
out_of_memory i = record { accepted = tt; typed = tt; deepest = tt; safe = tt; accepts = λ a. refl; flaws = inl refl }
