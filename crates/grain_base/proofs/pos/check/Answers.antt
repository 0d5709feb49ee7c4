use Rattle.std.proofs.Common.{◌≡◌, ◌+◌, ◌-◌, ◌∙◌, length, Ok, Err, refl, arith, rules}
use Rattle.std.proofs.lemmas.Result.{err_from_is_err_and}
use Rattle.grain_base.specs.declared.pos.Error.TheVariants.{Overflow, OutOfOrder, TrailingBytes}
use Rattle.grain_base.proofs.Numbers.{begins_at}
use Rattle.grain_base.proofs.TableCheck.{Leads, bad_count, bad_delta, bad_line, bad_column, repeated, past, checked_more, no_bytes_left, bytes_left, says_error}
use Rattle.grain_base.proofs.Verdict.{Answer, says_ok, says_err}
use Rattle.grain_base.proofs.pos.check.Goals as goal

pub returns-in_err-count : goal.returns-in_err-count
returns-in_err-count c =
    let error = c.in_err-count.field-0.0 in
    let flaw = bad_count c.args.table.now error ((c.in_err-count.ensures.error error).0 refl) in
    let says = says_error _ _ _ (err_from_is_err_and _ c.from_residual.ensures.1) flaw in
    record { ok = says_ok _ _ says; err = says_err _ _ says }

pub returns-in_err-delta : goal.returns-in_err-delta
returns-in_err-delta c =
    let error = c.in_err-delta.field-0.0 in
    let flaw = bad_delta _ _ _ _ _ error c.loop-entry.invariant c.loop-entry-test.true ((c.in_err-delta.ensures.error error).0 refl) in
    let says = says_error _ _ _ (err_from_is_err_and _ c.from_residual-in_err-delta.ensures.1) flaw in
    record { ok = says_ok _ _ says; err = says_err _ _ says }

pub returns-then-entry-ne0 : goal.returns-then-entry-ne0
returns-then-entry-ne0 c =
    let answer : Answer = Err (OutOfOrder c.loop-entry.address) in
    let delta = begins_at _ _ _ _ c.in_ok-delta.ensures.found (search rules) in
    let says = repeated _ _ _ _ _ _ _ c.loop-entry.invariant c.loop-entry-test.true delta c.if-delta-eq0.true (omega arith) in
    record { ok = says_ok _ answer says; err = says_err _ answer says }

pub returns-in_err-address : goal.returns-in_err-address
returns-in_err-address c =
    let delta = begins_at _ _ _ _ c.in_ok-delta.ensures.found (search rules) in
    let flaw = past _ _ _ _ _ _ _ c.loop-entry.invariant c.loop-entry-test.true delta (grind arith) in
    let overflow : c.in_err-address.field-0.0 ≡ Overflow = grind arith in
    let exit = err_from_is_err_and c.from_residual-in_err-address.result c.from_residual-in_err-address.ensures.1 in
    let says = says_error c.args.table.now c.from_residual-in_err-address.result Overflow (exit.0, exit.1, exit.2 ∙ overflow) flaw in
    record { ok = says_ok _ _ says; err = says_err _ _ says }

pub returns-in_err-_line : goal.returns-in_err-_line
returns-in_err-_line c =
    let error = c.in_err-_line.field-0.0 in
    let delta = begins_at _ _ _ _ c.in_ok-delta.ensures.found (search rules) in
    let leads : Leads c.loop-entry.entry c.loop-entry.address c.in_ok-delta.delta = record { later = grind arith; fits = grind arith } in
    let flaw = bad_line _ _ _ _ _ _ _ error c.loop-entry.invariant c.loop-entry-test.true leads delta ((c.in_err-_line.ensures.error error).0 refl) in
    let says = says_error _ _ _ (err_from_is_err_and _ c.from_residual-in_err-_line.ensures.1) flaw in
    record { ok = says_ok _ _ says; err = says_err _ _ says }

pub returns-in_err-_column : goal.returns-in_err-_column
returns-in_err-_column c =
    let error = c.in_err-_column.field-0.0 in
    let delta = begins_at _ _ _ _ c.in_ok-delta.ensures.found (search rules) in
    let line = begins_at _ _ _ _ c.in_ok-_line.ensures.found (search rules) in
    let leads : Leads c.loop-entry.entry c.loop-entry.address c.in_ok-delta.delta = record { later = grind arith; fits = grind arith } in
    let flaw = bad_column _ _ _ _ _ _ _ _ _ error c.loop-entry.invariant c.loop-entry-test.true leads delta line ((c.in_err-_column.ensures.error error).0 refl) in
    let says = says_error _ _ _ (err_from_is_err_and _ c.from_residual-in_err-_column.ensures.1) flaw in
    record { ok = says_ok _ _ says; err = says_err _ _ says }

pub loop-entry-preserved : goal.loop-entry-preserved
loop-entry-preserved c =
    let delta = begins_at _ _ _ _ c.in_ok-delta.ensures.found (search rules) in
    let line = begins_at _ _ _ _ c.in_ok-_line.ensures.found (search rules) in
    let column = begins_at _ _ _ _ c.in_ok-_column.ensures.found (search rules) in
    let leads : Leads c.loop-entry.entry c.loop-entry.address c.in_ok-delta.delta = record { later = grind arith; fits = grind arith } in
    let sum : c.in_ok-address.address ≡ c.loop-entry.address + c.in_ok-delta.delta = grind arith in
    rw sum (checked_more _ _ _ _ _ _ _ _ _ _ _ c.loop-entry.invariant leads delta line column c.in_ok-_column.ensures.found.0)

pub returns-in-0 : goal.returns-in-0
returns-in-0 c =
    let says = no_bytes_left _ _ _ _ _ c.loop-entry.invariant (omega arith) (omega (arith, c.in-0.is)) in
    record { ok = says_ok _ (Ok tt) says; err = says_err _ (Ok tt) says }

pub returns-in_default : goal.returns-in_default
returns-in_default c =
    let answer : Answer = Err (TrailingBytes (length c.args.table.now - c.loop-entry.at)) in
    let says = bytes_left _ _ _ _ _ c.loop-entry.invariant (omega arith) (omega arith) in
    record { ok = says_ok _ answer says; err = says_err _ answer says }
