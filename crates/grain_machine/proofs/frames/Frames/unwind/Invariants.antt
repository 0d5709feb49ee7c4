use Rattle.std.proofs.Common.{◌≡◌, vec_len}
use Rattle.std.specs.List.{All}
use Rattle.grain_machine.specs.Calls.{catcher}
use Rattle.grain_machine.specs.Standing.{IsWaiting, waiting_of}
use Rattle.grain_machine.proofs.frames.Frames.unwind.Given as goal

abbrev pub invariant-callers : goal.invariant-callers
invariant-callers g l = record {
  program : l.self.body.program ≡ l.initial.self.body.program;
  waiting : All (IsWaiting l.initial.self.body.program) l.self.callers.items;
  same : catcher (waiting_of l.self.callers.items) ≡ catcher (waiting_of l.initial.self.callers.items);
}

abbrev pub decreases-callers : goal.decreases-callers
decreases-callers g l = vec_len l.self.callers
