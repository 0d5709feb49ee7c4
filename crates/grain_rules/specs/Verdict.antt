-- What a call answers that verifies.
use Rattle.std.specs.Prelude.{◌≡◌, ◌⊎◌, ℕ, IfErr, IfOk, OnOk, Result, Vec}
use Rattle.std.specs.List.{AllZip}
use Rattle.std.specs.declared.alloc.Global.{Global}
use Rattle.grain_rules.specs.Accepted.{CodePasses, ConstantsPass, FunctionsPass, Input, IsAccepted, IsSafe}
use Rattle.grain_rules.specs.Code.{coded}
use Rattle.grain_rules.specs.Flaw.{Flaw}
use Rattle.grain_rules.specs.Typing.{HasTyping, IsDeepest}
use Rattle.grain_rules.specs.declared.error.VerifyError.{VerifyError}
use Rattle.grain_rules.specs.declared.error.VerifyError.TheVariants.{OutOfMemory}

-- the tests before the chunks all pass
pub record ReachesChunks (i : Input) : Type 0 where
  pub constants : ConstantsPass i
  pub code : CodePasses i
  pub functions : FunctionsPass i

-- the headline: the answer is right about the input
pub record IsVerdict (i : Input) (result : Result (Vec ℕ Global) VerifyError) : Type 0 where
  -- what is accepted is accepted input
  pub accepted : OnOk result (IsAccepted i)
  -- its chunks have typings within its numbers
  pub typed : IfOk result (λ numbers. AllZip (HasTyping (coded i.code)) i.chunks numbers.items)
  -- its numbers are the greatest operand counts that are reached, chunk by chunk
  pub deepest : IfOk result (λ numbers. AllZip (IsDeepest (coded i.code)) i.chunks numbers.items)
  -- no state of a kept run lacks anything or has more operands than its chunk's number, some state has as many, and a run
  -- is kept if its faults at quiet operations are
  pub safe : IfOk result (λ numbers. AllZip (IsSafe i.code) i.chunks numbers.items)
  -- accepted input is accepted, unless memory runs out
  pub accepts : IsAccepted i → IfErr result (λ e. e ≡ OutOfMemory)
  -- each refusal except a lack of memory names a flaw of the input
  pub flaws : IfErr result (λ e. (e ≡ OutOfMemory) ⊎ Flaw i e)
