use Rattle.std.proofs.Common.{◌≡◌, ℕ, Err, inl, refl, ap, subst, ◌∙◌, arith}
use Rattle.std.specs.Prelude.{IfErr}
use Rattle.std.proofs.lemmas.Result.{err_from_is_err_and}
use Rattle.grain_rules.specs.Accepted.{Input, input}
use Rattle.grain_rules.specs.declared.error.VerifyError.TheVariants.{OutOfMemory}
use Rattle.grain_verify.specs.Meter.{IsMetered}
use Rattle.grain_verify.specs.Refusals.{IsLocatedRefusal, without_chunk}
use Rattle.grain.specs.Program.{Program, input_of}
use Rattle.grain_rules.specs.Verdict.{IsVerdict}
use Rattle.grain.proofs.Inputs.{same_input}
use Rattle.grain_rules.proofs.Verdicts.{out_of_memory}
use Rattle.grain.proofs.program.Program.verify_located.Goals as goal

-- what `verify` is given is what the program has
given : (c : goal.After-drop-chunks) → input c.self.inside.caps c.deref.result.now c.deref-2.result.now c.deref-3.result.now c.deref-4.result.now c.pools-pools.result ≡ input_of c.args.self.now
given c =
    let view = c.self.view_is in
    let pools = c.pools-pools.ensures in
    same_input c.args.self.now c.self.inside.caps c.deref.result.now c.deref-2.result.now c.deref-3.result.now c.deref-4.result.now c.pools-pools.result
    (ap (λ (p : Program). p.caps) view)
    (c.deref.ensures.value ∙ ap (λ (p : Program). p.consts) view)
    (c.deref-2.ensures.value ∙ ap (λ (p : Program). p.code) view)
    (c.deref-3.ensures.value ∙ ap (λ (p : Program). p.functions) view)
    (c.deref-4.ensures.value ∙ c.in_ok-chunks.ensures)
    (record { consts = pools.consts; names = pools.names; tokens = pools.tokens; assign_ops = pools.assign_ops; residuals = pools.residuals; chains = pools.chains; switches = pools.switches })

-- nothing is counted when memory runs out before anything is visited
nothing_metered : (i : Input) (meter : ℕ) → IsMetered i meter meter (Err OutOfMemory)
nothing_metered i meter = record { accepted = tt; refused = (0, record { starts = λ starts split. omega arith; nowhere = λ none. refl }, omega arith) }

pub returns-in_err-chunks-clause-verdict : goal.returns-in_err-chunks-clause-verdict
returns-in_err-chunks-clause-verdict c =
    let p = err_from_is_err_and c.from_residual.result c.from_residual.ensures.1 in
    rw (p.1, p.2) (out_of_memory (input_of c.args.self.now))

pub returns-in_err-chunks-clause-located : goal.returns-in_err-chunks-clause-located
returns-in_err-chunks-clause-located c =
    let p = err_from_is_err_and c.from_residual.result c.from_residual.ensures.1 in
    rw (p.1, p.2) (inl (record { error = refl; chunk = refl }))

pub returns-in_err-chunks-clause-metered : goal.returns-in_err-chunks-clause-metered
returns-in_err-chunks-clause-metered c =
    let p = err_from_is_err_and c.from_residual.result c.from_residual.ensures.1 in
    rw (p.1, p.2) (nothing_metered (input_of c.args.self.now) c.args.meter.now)

pub returns-clause-verdict : goal.returns-clause-verdict
returns-clause-verdict c = subst (λ (i : Input). IsVerdict i (without_chunk c.verify_located.result)) (given c) c.verify_located.ensures.verdict

pub returns-clause-located : goal.returns-clause-located
returns-clause-located c = subst (λ (i : Input). IfErr c.verify_located.result (IsLocatedRefusal i)) (given c) c.verify_located.ensures.located

pub returns-clause-metered : goal.returns-clause-metered
returns-clause-metered c = subst (λ (i : Input). IsMetered i c.args.meter.now c.verify_located.new.meter (without_chunk c.verify_located.result)) (given c) c.verify_located.ensures.metered
