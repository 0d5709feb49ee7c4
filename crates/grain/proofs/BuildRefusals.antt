-- What a refusal of the verifier says as one of building.
use Rattle.std.proofs.Common.{◌≡◌, ◌⊎◌, inl, inr, refl, ap}
use Rattle.grain.specs.Build.{BuildFlaw, CanLay, Draft, IsLaid, of_verify}
use Rattle.grain.specs.Program.{Program, input_of}
use Rattle.grain.specs.declared.builder.BuildError.TheVariants as errors
use Rattle.grain_rules.specs.Flaw.{Flaw}
use Rattle.grain_rules.specs.declared.error.VerifyError.{VerifyError}
use Rattle.grain_rules.specs.declared.error.VerifyError.TheVariants as faults

-- a flaw of the program that is laid is one of what was handed over
module _ (d : Draft) (p : Program) (lays : CanLay d) (laid : IsLaid d p) where
  of_flaw : (e : VerifyError) → Flaw (input_of p) e → (of_verify e ≡ errors.OutOfMemory) ⊎ BuildFlaw d (of_verify e)
  of_flaw faults.OutOfMemory f = inl refl
  of_flaw (faults.MissingCaps artifact absent at) f = inr (lays, (p, laid, f))
  of_flaw (faults.Undecodable at) f = inr (lays, (p, laid, f))
  of_flaw (faults.TrailingBytes at len) f = inr (lays, (p, laid, f))
  of_flaw (faults.ChunkOutOfRange entry end len) f = inr (lays, (p, laid, f))
  of_flaw (faults.JumpOutOfRange at target) f = inr (lays, (p, laid, f))
  of_flaw (faults.JumpIntoAnInstruction at target) f = inr (lays, (p, laid, f))
  of_flaw (faults.DepthConflict at expected found) f = inr (lays, (p, laid, f))
  of_flaw (faults.Underflow at need have) f = inr (lays, (p, laid, f))
  of_flaw faults.FallsOffTheEnd f = inr (lays, (p, laid, f))
  of_flaw (faults.StackExceedsDeclared needed declared) f = inr (lays, (p, laid, f))
  of_flaw (faults.IteratorUnderflow at) f = inr (lays, (p, laid, f))
  of_flaw (faults.HandlerUnderflow at) f = inr (lays, (p, laid, f))
  of_flaw (faults.SinksBelowHandler at need have) f = inr (lays, (p, laid, f))
  of_flaw (faults.BadIndex at what index) f = inr (lays, (p, laid, f))

  pub of_refusal : (e : VerifyError) → (e ≡ faults.OutOfMemory) ⊎ Flaw (input_of p) e → (of_verify e ≡ errors.OutOfMemory) ⊎ BuildFlaw d (of_verify e)
  of_refusal e (inl m) = inl (ap of_verify m)
  of_refusal e (inr f) = of_flaw e f
