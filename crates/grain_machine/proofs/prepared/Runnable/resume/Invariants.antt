use Rattle.std.proofs.Common.{ℕ, ◌+◌}
use Rattle.grain_code.specs.Span.{Span}
use Rattle.grain_machine.specs.Resting.{parked_stack}
use Rattle.grain_machine.specs.Resuming.{HasReached}
use Rattle.grain_machine.specs.Standing.{IsStanding, stack_of}
use Rattle.grain_machine.proofs.prepared.Runnable.resume.Given as goal

abbrev pub invariant-turns : goal.invariant-turns
invariant-turns g l = record {
  standing : IsStanding l.self.program l.frames;
  come : (chunk : Span) (turns : ℕ) → HasReached l.self.program l.limits.depth chunk turns (parked_stack l.fn.run)
      → HasReached l.self.program l.limits.depth chunk (turns + l.made) (stack_of l.frames);
}
