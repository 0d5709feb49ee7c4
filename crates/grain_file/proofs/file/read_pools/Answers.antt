use Rattle.std.proofs.Common.{refl}
use Rattle.std.proofs.lemmas.Result.{err_from_is_err_and}
use Rattle.grain_file.specs.ProgramFile.{pools_format}
use Rattle.grain_format.proofs.FieldLoop.{stopped}
use Rattle.grain_file.proofs.file.read_pools.Goals as goal

pub returns-in_err-switches : goal.returns-in_err-switches
unfolding pools_format
returns-in_err-switches c =
    let p = err_from_is_err_and c.from_residual-in_err-switches.result c.from_residual-in_err-switches.ensures.1 in
    let s = rw c.deref.ensures.value at c.in_err-switches.ensures in
    let e = c.in_err-switches.field-0.0 in
    let l = c.read_switches.new.cursor.left.now in
    rw (p.1, p.2, c.in_ok-names.ensures, c.in_ok-consts.ensures, c.in_ok-tokens.ensures, c.in_ok-assign_ops.ensures, c.in_ok-chains.ensures)
    (stopped e l _ _ (stopped e l _ _ (stopped e l _ _ (stopped e l _ _ (stopped e l _ _ s)))))

pub returns : goal.returns
unfolding pools_format
returns c =
    let s = rw c.deref.ensures.value at c.in_ok-switches.ensures in
    rw (c.in_ok-names.ensures, c.in_ok-consts.ensures, c.in_ok-tokens.ensures, c.in_ok-assign_ops.ensures, c.in_ok-chains.ensures, s) refl
