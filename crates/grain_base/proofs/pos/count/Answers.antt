use Rattle.std.proofs.Common.{refl, rules}
use Rattle.std.proofs.lemmas.Result.{err_from_is_err_and}
use Rattle.grain_base.specs.AddressTable.{as_table_error}
use Rattle.grain_base.proofs.Numbers.{begins_at, first_read, first_unread, no_error, the_error}
use Rattle.grain_base.proofs.pos.count.Goals as goal

pub returns-in_err-u32 : goal.returns-in_err-u32
returns-in_err-u32 c =
    let error = c.in_err-u32.field-0.0 in
    let flaw = (c.in_err-u32.ensures.error error).0 refl in
    let exit = err_from_is_err_and c.from_residual.result c.from_residual.ensures.1 in
    rw (exit.1, exit.2) (record { ok = first_unread _ error _ flaw; err = the_error as_table_error _ error flaw })

pub returns : goal.returns
returns c =
    let number = begins_at _ 0 _ _ c.in_ok-u32.ensures.found (search rules) in
    record { ok = first_read _ _ _ number; err = no_error as_table_error _ _ _ number }
