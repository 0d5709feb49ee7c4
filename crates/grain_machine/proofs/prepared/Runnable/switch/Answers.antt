use Rattle.std.proofs.Common.{◌≡◌, List, refl, ap, ◌∙◌, subst, arith}
use Rattle.grain_code.specs.declared.op.Op.TheVariants as ops
use Rattle.std.specs.Prelude.{get_or}
use Rattle.std.specs.List.{Contains}
use Rattle.grain_rules.specs.Code.{switch_targets}
use Rattle.grain_pools.specs.declared.switch.Switch.{Switch}
use Rattle.std.proofs.lemmas.Result.{on_ok_weaker}
use Rattle.grain_machine.specs.State.{Runs}
use Rattle.grain_machine.proofs.Keeping.{kept_self}
use Rattle.grain_machine.proofs.Passing.{went_to, whole_back}
use Rattle.grain_machine.proofs.Stopping.{raised}
use Rattle.grain_machine.proofs.Switching.{among_targets, switch_within}
use Rattle.grain_machine.proofs.prepared.Runnable.switch.Goals as goal

pub bounds-switches-index : goal.bounds-switches-index
bounds-switches-index g c =
    rw c.switches.ensures (let e = ap (λ (x : Runs). x.program) c.self.view_is in rw e (switch_within c.args.self.now.program c.args.index c.requires.asked.found))

pub returns-in-Ok-clause-goes : goal.returns-in-Ok-clause-goes
returns-in-Ok-clause-goes g c =
    let r = c.args.self.now in
    let s = c.args.frame.now in
    let d = c.index-switches-index.result in
    let all = c.switches.ensures ∙ ap (λ (x : Runs). x.program.switches) c.self.view_is in
    let at = subst (λ (xs : List Switch). d ≡ get_or xs c.args.index d) all c.index-switches-index.is in
    let among = among_targets r.program.switches c.args.index c.in-Ok.target d
    (switch_within r.program c.args.index c.requires.asked.found) (subst (λ (w : Switch). Contains (switch_targets w) c.in-Ok.target) at c.in-Ok.ensures) in
    rw c.go.ensures
    (went_to r s (ops.Switch c.args.index) c.args.next c.requires c.in-Ok.target s.machine.operands s.machine.iterators s.machine.handlers refl among (omega arith) (omega arith) refl refl
    (kept_self _ _) (kept_self _ _))

pub returns-in-Err-clause-goes : goal.returns-in-Err-clause-goes
returns-in-Err-clause-goes g c =
    let r = c.args.self.now in
    let s = c.args.frame.now in
    on_ok_weaker c.raise.result (λ l. whole_back r s (ops.Switch c.args.index) c.args.next c.requires s c.raise.new.frame refl refl l c.raise.ensures.room) c.raise.ensures.lands

pub returns-in-Err-clause-ends : goal.returns-in-Err-clause-ends
returns-in-Err-clause-ends g c =
    raised c.args.self.now c.args.frame.now c.args.frame.now (ops.Switch c.args.index) c.args.next c.raise.result c.requires refl refl c.raise.ensures.fault
