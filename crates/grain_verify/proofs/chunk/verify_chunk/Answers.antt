use Rattle.std.proofs.Common.{◌≡◌, ◌<◌, inl, inr, rules}
use Rattle.std.proofs.lemmas.Result.{err_from_is_err_and}
use Rattle.grain_rules.specs.declared.error.VerifyError.TheVariants.{StackExceedsDeclared, OutOfMemory}
use Rattle.grain_rules.proofs.Exact.{no_flaw}
use Rattle.grain_verify.proofs.chunk.verify_chunk.Goals as goal

pub returns-in_err-ordinal-clause-accepts : goal.returns-in_err-ordinal-clause-accepts
returns-in_err-ordinal-clause-accepts g c passes =
    absurd (no_flaw c.args.prepared.now.code c.args.chunk.now c.in_err-ordinal.field-0.0 passes c.in_err-ordinal.ensures.err.0)

pub returns-in_err-needed-clause-accepts : goal.returns-in_err-needed-clause-accepts
returns-in_err-needed-clause-accepts g c passes =
    let p = err_from_is_err_and c.from_residual-in_err-needed.result c.from_residual-in_err-needed.ensures.1 in
    let e = c.in_err-needed.field-0.0 in
    rw (p.1, p.2) (elim c.in_err-needed.ensures.err as (λ _. e ≡ OutOfMemory) [
      | inl m ↦ m
      | inr h ↦ absurd (no_flaw c.args.prepared.now.code c.args.chunk.now e passes h)
    ])

pub returns-then-needed-from-clause-flaws : goal.returns-then-needed-from-clause-flaws
returns-then-needed-from-clause-flaws g c =
    let h = c.in_ok-needed.ensures in
    let more : c.max_stack-declared.result < c.in_ok-needed.needed = search rules in
    inr (c.in_ok-ordinal.ensures.framed, c.max_stack-declared.ensures, more, h.deepest, (c.in_ok-needed.needed, h.typed))

pub returns-then-needed-from-clause-accepts : goal.returns-then-needed-from-clause-accepts
returns-then-needed-from-clause-accepts g c passes =
    let h = c.in_ok-needed.ensures in
    let more : c.max_stack-declared.result < c.in_ok-needed.needed = search rules in
    absurd (no_flaw c.args.prepared.now.code c.args.chunk.now (StackExceedsDeclared c.in_ok-needed.needed c.max_stack-declared.result) passes
    (c.in_ok-ordinal.ensures.framed, c.max_stack-declared.ensures, more, h.deepest, (c.in_ok-needed.needed, h.typed)))
