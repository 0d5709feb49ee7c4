use Rattle.std.proofs.Common.{◌≡◌, ◌+◌, refl, arith, rules}
use Rattle.std.proofs.lemmas.Result.{err_from_is_err_and}
use Rattle.grain_base.proofs.Numbers.{begins_at}
use Rattle.grain_base.proofs.Entries.{no_delta, address_large, no_line, no_column, is_next}
use Rattle.grain_base.proofs.pos.entry.Goals as goal

pub returns-in_err-delta-clause-err : goal.returns-in_err-delta-clause-err
returns-in_err-delta-clause-err c =
    let exit = err_from_is_err_and c.from_residual.result c.from_residual.ensures.1 in
    let error = c.in_err-delta.field-0.0 in
    rw exit.1 (no_delta _ _ error ((c.in_err-delta.ensures.error error).0 refl))

pub returns-in_err-address-clause-err : goal.returns-in_err-address-clause-err
returns-in_err-address-clause-err c =
    let exit = err_from_is_err_and c.from_residual-in_err-address.result c.from_residual-in_err-address.ensures.1 in
    let delta = begins_at _ _ _ _ c.in_ok-delta.ensures.found (search rules) in
    rw exit.1 (address_large _ _ _ _ delta (grind arith))

pub returns-in_err-line-clause-err : goal.returns-in_err-line-clause-err
returns-in_err-line-clause-err c =
    let exit = err_from_is_err_and c.from_residual-in_err-line.result c.from_residual-in_err-line.ensures.1 in
    let delta = begins_at _ _ _ _ c.in_ok-delta.ensures.found (search rules) in
    let error = c.in_err-line.field-0.0 in
    rw exit.1 (no_line _ _ _ _ error delta ((c.in_err-line.ensures.error error).0 refl))

pub returns-in_err-column-clause-err : goal.returns-in_err-column-clause-err
returns-in_err-column-clause-err c =
    let exit = err_from_is_err_and c.from_residual-in_err-column.result c.from_residual-in_err-column.ensures.1 in
    let delta = begins_at _ _ _ _ c.in_ok-delta.ensures.found (search rules) in
    let line = begins_at _ _ _ _ c.in_ok-line.ensures.found (search rules) in
    let error = c.in_err-column.field-0.0 in
    rw exit.1 (no_column _ _ _ _ _ _ error delta line ((c.in_err-column.ensures.error error).0 refl))

pub returns-clause-ok : goal.returns-clause-ok
returns-clause-ok c =
    let delta = begins_at _ _ _ _ c.in_ok-delta.ensures.found (search rules) in
    let line = begins_at _ _ _ _ c.in_ok-line.ensures.found (search rules) in
    let column = begins_at _ _ _ _ c.in_ok-column.ensures.found (search rules) in
    let sum : c.in_ok-address.address ≡ c.args.before + c.in_ok-delta.delta = grind arith in
    rw sum (is_next _ _ _ _ _ _ _ _ delta line column (grind arith))
