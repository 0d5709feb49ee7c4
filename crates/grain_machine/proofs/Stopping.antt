-- How runs end.
use Rattle.std.proofs.Common.{◌≡◌, ℕ, false, List, Result, Ok, Err, IfErr, IsSome, sym, ap, ◌∙◌, subst}
use Rattle.grain_code.specs.declared.op.Op.{Op}
use Rattle.grain_rules.specs.Machine.{Handler, innermost}
use Rattle.grain_rules.specs.Rows.{is_quiet}
use Rattle.grain_machine.specs.Calls.{Sounds}
use Rattle.grain_machine.specs.Ends.{IsFault, MayEnd}
use Rattle.grain_machine.specs.Asked.{program_code}
use Rattle.grain_machine.specs.State.{FrameState, IsAt, Runs, State, state_of}
use Rattle.grain_machine.specs.Values.{ValueMachine}
use Rattle.grain_machine.specs.declared.step.Outcome.{Outcome}
use Rattle.grain_machine.specs.declared.step.Outcome.TheVariants as outcomes

-- what stands where the run is isn't quiet
pub sounds_here : (r : Runs) (s : State) (op : Op) (behind : ℕ) → IsAt r s op behind → is_quiet op ≡ false → Sounds (program_code r.program) s.machine.address
sounds_here r s op behind at e = record { op = op; stands = at.finds.stands.is; sounds = e }

abbrev pub handlers_of : {V I : Type 0} → FrameState V I → List Handler
handlers_of s = s.machine.handlers

-- a fault that finds the same handlers
same_fault : {V I F : Type 0} (m n : ValueMachine V I) (h : Outcome V F) → m.handlers ≡ n.handlers → IsFault m h → IsFault n h
same_fault m n (outcomes.Returned v) k f = f
same_fault m n (outcomes.Faulted x) k f = ap innermost (sym k) ∙ f
same_fault m n (outcomes.Uncatchable x) k f = subst (λ (xs : List Handler). IsSome (innermost xs)) k f
same_fault m n outcomes.OutOfFuel k f = f
same_fault m n outcomes.OutOfMemory k f = f
same_fault m n outcomes.Unanswered k f = f

may_end : {V I F : Type 0} (r : Runs) (s : FrameState V I) (h : Outcome V F) → Sounds (program_code r.program) s.machine.address → IsFault s.machine h
    → MayEnd (program_code r.program) s.machine h
may_end r s (outcomes.Returned v) e f = absurd f
may_end r s (outcomes.Faulted x) e f = (e, f)
may_end r s (outcomes.Uncatchable x) e f = (e, f)
may_end r s outcomes.OutOfFuel e f = absurd f
may_end r s outcomes.OutOfMemory e f = absurd f
may_end r s outcomes.Unanswered e f = absurd f

-- a fault may end the run where what stands isn't quiet; it finds the handlers that stood there
pub raised : {T V I F : Type 0} (r : Runs) (s x : FrameState V I) (op : Op) (behind : ℕ) (result : Result T (Outcome V F)) → IsAt r (state_of s) op behind → is_quiet op ≡ false
    → handlers_of x ≡ handlers_of s → IfErr result (IsFault x.machine) → IfErr result (MayEnd (program_code r.program) s.machine)
raised r s x op behind (Ok v) at e k f = tt
raised r s x op behind (Err h) at e k f = may_end r s h (sounds_here r (state_of s) op behind at e) (same_fault x.machine s.machine h k f)
