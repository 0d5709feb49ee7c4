use Rattle.std.proofs.Common.{refl}
use Rattle.std.proofs.lemmas.Result.{err_from_is_err_and}
use Rattle.grain_rules.specs.Accepted.{input_beside}
use Rattle.grain_rules.specs.Flaw.{of_code, of_constant, of_functions}
use Rattle.grain_rules.specs.Setting.{with_caps}
use Rattle.grain_rules.proofs.Whole.{none_asks, no_code_flaw}
use Rattle.grain_verify.proofs.verifier.check_before_chunks.Goals as goal

pub returns-in_err-check_constants-clause-refused : goal.returns-in_err-check_constants-clause-refused
returns-in_err-check_constants-clause-refused g c =
    let i = c.candidate.inside in
    let h = c.in_err-check_constants.ensures.err in
    rw (← c.candidate.view_is) (λ a. absurd (none_asks i.caps.0 i.consts.now h.0.0 a.constants h.2))

pub returns-in_err-check_constants-clause-flaws : goal.returns-in_err-check_constants-clause-flaws
returns-in_err-check_constants-clause-flaws g c =
    let p = err_from_is_err_and c.from_residual.result c.from_residual.ensures.1 in
    let (asked, is, asks) = c.in_err-check_constants.ensures.err in
    rw (p.1, p.2, is, ← c.candidate.view_is) (of_constant refl asks)

pub returns-in_err-is_known-clause-refused : goal.returns-in_err-is_known-clause-refused
returns-in_err-is_known-clause-refused g c =
    let i = c.candidate.inside in
    rw (← c.candidate.view_is) (λ a. absurd (no_code_flaw (with_caps i.caps.0 (g.P.Read.facts i.pools.now)) i.code.now c.in_err-is_known.field-0.0 a.code (c.in_err-is_known.ensures.err i.caps.0)))

pub returns-in_err-is_known-clause-flaws : goal.returns-in_err-is_known-clause-flaws
returns-in_err-is_known-clause-flaws g c =
    let p = err_from_is_err_and c.from_residual-in_err-is_known.result c.from_residual-in_err-is_known.ensures.1 in
    rw (p.1, p.2, ← c.candidate.view_is) (of_code c.in_ok-check_constants.ensures.ok (c.in_err-is_known.ensures.err c.candidate.inside.caps.0))

pub returns-in_err-check_functions-clause-flaws : goal.returns-in_err-check_functions-clause-flaws
returns-in_err-check_functions-clause-flaws g c =
    let p = err_from_is_err_and c.from_residual-in_err-check_functions.result c.from_residual-in_err-check_functions.ensures.1 in
    let (asked, is, some, what, refused) = c.in_err-check_functions.ensures.err in
    let constants = c.in_ok-check_constants.ensures.ok in
    let code = c.in_ok-is_known.ensures.ok c.candidate.inside.caps.0 in
    rw (p.1, p.2, is, ← c.candidate.view_is) (of_functions refl (record { constants = constants; code = code; functions = some; what = what; refused = refused }))

pub returns-clause-ok : goal.returns-clause-ok
returns-clause-ok g c =
    rw (← c.candidate.view_is) (record {
      constants = c.in_ok-check_constants.ensures.ok;
      code = c.in_ok-is_known.ensures.ok c.candidate.inside.caps.0;
      functions = c.in_ok-check_functions.ensures.ok;
    })
