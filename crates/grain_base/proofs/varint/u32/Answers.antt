use Rattle.std.proofs.Common.{refl, arith}
use Rattle.std.proofs.lemmas.Result.{err_from_is_err_and}
use Rattle.grain_base.proofs.NumberUniqueness.{u32_flaw, u32_large, u32_small}
use Rattle.grain_base.proofs.varint.u32.Goals as goal

pub returns-in_err-value-clause-error : goal.returns-in_err-value-clause-error
returns-in_err-value-clause-error c =
    let exit = err_from_is_err_and c.from_residual.result c.from_residual.ensures.1 in
    let error = c.in_err-value.field-0.0 in
    rw (exit.1, exit.2) (λ e. u32_flaw _ error e ((c.in_err-value.ensures.error error).0 refl))

pub returns-in-Ok-clause-error : goal.returns-in-Ok-clause-error
returns-in-Ok-clause-error c = rw c.in-Ok.ensures.1 (u32_small _ _ _ _ c.in_ok-value.ensures.found c.in-Ok.ensures.0)

pub returns-in-Err-clause-error : goal.returns-in-Err-clause-error
returns-in-Err-clause-error c = u32_large _ _ _ _ c.in_ok-value.ensures.found (omega (arith, c.in-Err.ensures))
