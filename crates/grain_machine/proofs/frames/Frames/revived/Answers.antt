use Rattle.std.proofs.Common.{sym, ap, subst}
use Rattle.grain_machine.specs.State.{IsUnderWay, Runs, state_of}
use Rattle.grain_machine.proofs.frames.Frames.revived.Goals as goal

pub returns-clause-standing : goal.returns-clause-standing
returns-clause-standing g c = record {
  program = ap (λ (r : Runs). r.program) c.other-body.ensures;
  ready = subst (λ (r : Runs). IsUnderWay r (state_of c.args.parked.frame)) (sym c.other-body.ensures) c.requires.ready;
  waiting = c.requires.waiting;
}
