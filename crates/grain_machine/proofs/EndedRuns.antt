-- How runs end that pause.
use Rattle.std.proofs.Common.{◌≡◌, ℕ, ◌<◌, List, [], ◌∷◌, refl, sym, ap, ◌∙◌, subst}
use Rattle.grain.specs.Program.{Program}
use Rattle.grain_code.specs.Span.{Span}
use Rattle.grain_machine.specs.Calls.{Activation, CallStack, MayCall, outermost_from, outermost_of}
use Rattle.grain_machine.specs.Ends.{EndsAfter, IsEnded, StackEnds}
use Rattle.grain_machine.specs.Resting.{parked_stack}
use Rattle.grain_machine.specs.Resuming.{AwaitsValue, HasEnded, HasReached, stack_before}
use Rattle.grain_machine.specs.Standing.{waiting_of}
use Rattle.grain_machine.specs.State.{FrameState, Runs}
use Rattle.grain_machine.specs.declared.run.RunLimits.{RunLimits}
use Rattle.grain_machine.specs.declared.run.Waiting.{Waiting}
use Rattle.grain_machine.specs.declared.step.Outcome.{Outcome}
use Rattle.grain_machine.specs.declared.step.Outcome.TheVariants as outcomes
use Rattle.grain_machine.proofs.Calling.{outer_runs}

-- the outermost frame is where it was before the operands of the one on top were lent
same_outermost : {V I : Type 0} (a b : Activation V I) (callers : List (Activation V I)) → a.machine.address ≡ b.machine.address
    → (outermost_from a callers).machine.address ≡ (outermost_from b callers).machine.address
same_outermost a b [] e = e
same_outermost a b (c ∷ cs) e = refl

pub outermost_before : {V I : Type 0} (p : Program) (depth : ℕ) (chunk : Span) (turns : ℕ) (w : Waiting V I) (h : AwaitsValue p depth chunk turns w)
    → (outermost_of (stack_before w h.before)).machine.address ≡ (outermost_of (parked_stack w.frames)).machine.address
outermost_before {V} {I} p depth chunk turns w h =
    let same : h.before.machine.address ≡ w.frames.frame.machine.address = sym (ap (λ (s : FrameState V I). s.machine.address) h.lent.2) in
    same_outermost (stack_before w h.before).top (parked_stack w.frames).top (waiting_of w.frames.callers.items) same

ends_after : {V I F : Type 0} (p : Program) (fuel turns : ℕ) (s : CallStack V I) (outcome : Outcome V F) → turns < fuel → StackEnds p s outcome → EndsAfter p fuel turns s outcome
ends_after p fuel turns s (outcomes.Returned v) l e = (l, e.0, e.1)
ends_after p fuel turns s (outcomes.Faulted x) l e = (l, e.0, e.1)
ends_after p fuel turns s (outcomes.Uncatchable x) l e = (l, e.0, e.1)
ends_after p fuel turns s outcomes.OutOfFuel l e = absurd e
ends_after p fuel turns s outcomes.OutOfMemory l e = (l, e)
ends_after p fuel turns s outcomes.Unanswered l e = absurd e

-- a run that has reached these frames ends so there
ended_so : {V I F : Type 0} (r : Runs) (limits : RunLimits) (turns : ℕ) (s : CallStack V I) (at : ℕ) (outcome : Outcome V F)
    → HasReached r.program limits.depth r.chunk turns s → (outermost_of s).machine.address ≡ at → EndsAfter r.program limits.fuel turns s outcome
    → IsEnded I r limits at outcome
ended_so r limits turns s at outcome h e ends =
    let outer = outer_runs r.program limits.depth r.chunk s h.earlier h.run in
    record {
      stack = s;
      earlier = h.earlier;
      run = h.run;
      outermost = record { chunk = outer.same; earlier = outer.earlier; run = outer.run; moves = outer.few; here = e };
      kept = h.kept;
      ends = subst (λ (n : ℕ). EndsAfter r.program limits.fuel n s outcome) (sym h.long) ends;
    }

-- by an operation, within the fuel
pub ended : {V I F : Type 0} (r : Runs) (limits : RunLimits) (turns at : ℕ) (outcome : Outcome V F) → turns < limits.fuel
    → HasEnded I r.program limits.depth r.chunk turns at outcome → IsEnded I r limits at outcome
ended r limits turns at outcome l h =
    ended_so r limits turns h.stack at outcome h.reached h.here (ends_after r.program limits.fuel turns h.stack outcome l h.ends)

-- with the fuel spent
pub spent : {V I F : Type 0} (r : Runs) (limits : RunLimits) (turns : ℕ) (s : CallStack V I) (at : ℕ) → HasReached r.program limits.depth r.chunk turns s
    → at ≡ (outermost_of s).machine.address → turns ≡ limits.fuel → IsEnded {V = V} {F = F} I r limits at outcomes.OutOfFuel
spent r limits turns s at h e all = ended_so r limits turns s at outcomes.OutOfFuel h (sym e) all

-- at an operation for whose value the host has it wait
pub unanswered : {V I F : Type 0} (r : Runs) (limits : RunLimits) (turns : ℕ) (w : Waiting V I) (at : ℕ) → turns < limits.fuel
    → AwaitsValue r.program limits.depth r.chunk turns w → at ≡ (outermost_of (parked_stack w.frames)).machine.address
    → IsEnded {V = V} {F = F} I r limits at outcomes.Unanswered
unanswered r limits turns w at l h e =
    let a = h.asking in
    let may : MayCall r.program (stack_before w h.before).top w.takes w.next = record { op = a.op; finds = a.at.finds; gives = a.gives; next = a.at.next } in
    ended_so r limits turns (stack_before w h.before) at outcomes.Unanswered h.reached (outermost_before r.program limits.depth r.chunk turns w h ∙ sym e)
    (l, w.takes, w.next, may)
