-- Runs that pause, and go on.
use Rattle.std.proofs.Common.{◌≡◌, ℕ, ◌+◌, List, [], ◌∷◌, refl, sym, ap, ◌∙◌, subst, arith}
use Rattle.std.specs.List.{All}
use Rattle.grain_code.specs.Span.{Span}
use Rattle.grain_rules.specs.Machine.{IsOnKeptRun}
use Rattle.grain.specs.Program.{Program}
use Rattle.grain_machine.specs.Asked.{IsAsked, program_code}
use Rattle.grain_machine.specs.Calls.{Activation, CallStack, Turns, begins, outermost_of}
use Rattle.grain_machine.specs.Ends.{IsFaultOf, StackEnds}
use Rattle.grain_machine.specs.Resting.{IsLent, IsParked, parked_runs, parked_stack}
use Rattle.grain_machine.specs.Resuming.{HasReached, HasEnded, AwaitsValue, IsAwaiting, stack_before}
use Rattle.grain_machine.specs.Standing.{GivesHere, stack_of, waiting_of}
use Rattle.grain_machine.specs.State.{FrameState, IsUnderWay, Replaces, Runs, State, state_of}
use Rattle.grain_machine.specs.Values.{counted}
use Rattle.grain_machine.specs.declared.frames.Caller.{Caller}
use Rattle.grain_machine.specs.declared.frames.Frames.{Frames}
use Rattle.grain_machine.specs.declared.frames.Parked.{Parked}
use Rattle.grain_machine.specs.declared.run.Waiting.{Waiting}
use Rattle.grain_machine.specs.declared.step.Outcome.{Outcome}
use Rattle.grain_machine.proofs.EndedRuns.{outermost_before}
use Rattle.grain_machine.proofs.Lending.{frame_of, lent_turns, same_state, stack_fault}
use Rattle.grain_machine.proofs.Stopping.{handlers_of, sounds_here}

-- each frame is on a kept run of its chunk
abbrev pub AreKept : {V I : Type 0} → Program → CallStack V I → Type 0
AreKept p s = All (λ a. IsOnKeptRun (program_code p) a.chunk (counted a.machine)) (s.top ∷ s.callers)

-- the frame stands as it did before its operands were lent
pub lent_state : {V I : Type 0} (r : Runs) (s t : FrameState V I) (taken behind : ℕ) → GivesHere r (state_of s) taken behind → Replaces taken taken s t → state_of t ≡ state_of s
lent_state r s t taken behind asking lent = ap state_of lent.2 ∙ same_state r s asking.op behind taken asking.at asking.gives lent.0 lent.1

pub lent_ready : {V I : Type 0} (r : Runs) (s t : FrameState V I) (taken behind : ℕ) → GivesHere r (state_of s) taken behind → Replaces taken taken s t
    → IsUnderWay r (state_of s) → IsUnderWay r (state_of t)
lent_ready r s t taken behind asking lent ready = subst (IsUnderWay r) (sym (lent_state r s t taken behind asking lent)) ready

pub lent_asking : {V I : Type 0} (r : Runs) (s t : FrameState V I) (taken behind : ℕ) → GivesHere r (state_of s) taken behind → Replaces taken taken s t
    → GivesHere r (state_of t) taken behind
lent_asking r s t taken behind asking lent =
    subst (λ (x : State). GivesHere r x taken behind) (sym (lent_state r s t taken behind asking lent)) asking

-- a turn from where the frame on top waits is one from where it met its operation
module _ {V I : Type 0} (r : Runs) (s t : FrameState V I) (taken behind : ℕ) (asking : GivesHere r (state_of s) taken behind) (lent : Replaces taken taken s t)
    (callers : List (Activation V I)) where
  pub turns_before : (u : CallStack V I) (depth : ℕ) → Turns r.program depth (record { top = frame_of r t; callers = callers }) u
      → Turns r.program depth (record { top = frame_of r s; callers = callers }) u
  turns_before u depth goes =
      let moved = λ (y : FrameState V I). Turns r.program depth (record { top = frame_of r y; callers = callers }) u in
      lent_turns r s asking.op behind taken asking.at asking.gives lent.0 lent.1 u callers depth (subst moved lent.2 goes)

  pub fault_before : {F : Type 0} (outcome : Outcome V F) → IsFaultOf (frame_of r t ∷ callers) outcome → StackEnds r.program (record { top = frame_of r s; callers = callers }) outcome
  fault_before outcome e =
      stack_fault (frame_of r t) (frame_of r s) callers (ap handlers_of lent.2) r.program outcome (sounds_here r (state_of s) asking.op behind asking.at asking.gives.sounds) e

-- one turn more
pub come_on : {V I : Type 0} (p : Program) (depth : ℕ) (chunk : Span) (m n : ℕ) (s t : CallStack V I) → HasReached p depth chunk m s → Turns p depth s t → AreKept p t
    → m + 1 ≡ n → HasReached p depth chunk n t
come_on p depth chunk m n s t h goes kept e =
    let long = h.long in
    record { earlier = s ∷ h.earlier; run = (goes, h.run); long = omega (arith, long, e); kept = kept }

pub come_same : {V I : Type 0} (p : Program) (depth : ℕ) (chunk : Span) (m n : ℕ) (s t : CallStack V I) → HasReached p depth chunk m s → m ≡ n → s ≡ t
    → HasReached p depth chunk n t
come_same {V} {I} p depth chunk m n s t h e same =
    subst (λ (x : CallStack V I). HasReached p depth chunk n x) same (subst (λ (k : ℕ). HasReached p depth chunk k s) e h)

-- no turn yet
pub come_first : {V I : Type 0} (p : Program) (depth : ℕ) (chunk : Span) (s : CallStack V I) → s ≡ record { top = begins chunk; callers = [] } → AreKept p s
    → HasReached p depth chunk 0 s
come_first p depth chunk s first kept = record { earlier = []; run = first; long = refl; kept = kept }

-- frames at rest are the frames that they were
pub parked_as : {V I : Type 0} (p : Program) (f : Frames V I) (w : Parked V I) → w.chunk ≡ f.body.chunk → w.frame ≡ f.frame → w.callers.items ≡ f.callers.items
    → parked_stack w ≡ stack_of f
parked_as p f w ec ef ek = λ i. record { top = record { chunk = ec i; machine = (ef i).machine }; callers = waiting_of (ek i) }

pub revived_as : {V I : Type 0} (p : Program) (f : Frames V I) (w : Parked V I) → f.body ≡ parked_runs p w → f.frame ≡ w.frame → f.callers.items ≡ w.callers.items
    → stack_of f ≡ parked_stack w
revived_as p f w eb ef ek = λ i. record { top = record { chunk = (eb i).chunk; machine = (ef i).machine }; callers = waiting_of (ek i) }

pub parked_body : {V I : Type 0} (p : Program) (r : Runs) (w : Parked V I) → r.program ≡ p → w.chunk ≡ r.chunk → w.room ≡ r.room → parked_runs p w ≡ r
parked_body p r w ep ec er = λ i. record { program = sym ep i; chunk = ec i; room = er i }

-- A run has met the operation for whose value the frame on top waits.
module _ {V I : Type 0} (p : Program) (f g : Frames V I) (w : Parked V I) (taken behind : ℕ) (ep : f.body.program ≡ p) (h : IsLent f g taken behind)
    (ec : w.chunk ≡ g.body.chunk) (er : w.room ≡ g.body.room) (ef : w.frame ≡ g.frame) (ek : w.callers.items ≡ g.callers.items) where
  abbrev held : Waiting V I
  held = record { frames = w; takes = taken; next = behind }

  same_body : parked_runs p w ≡ f.body
  same_body = parked_body p f.body w ep (ec ∙ ap (λ (r : Runs). r.chunk) h.body) (er ∙ ap (λ (r : Runs). r.room) h.body)

  pub halted : (depth : ℕ) (chunk : Span) (turns : ℕ) → HasReached p depth chunk turns (stack_of f) → AwaitsValue p depth chunk turns held
  halted depth chunk turns come =
      let chunks : w.chunk ≡ f.body.chunk = ec ∙ ap (λ (r : Runs). r.chunk) h.body in
      let waits : waiting_of w.callers.items ≡ waiting_of f.callers.items = ap (λ (cs : List (Caller V I)). waiting_of cs) ek ∙ h.callers in
      let same : stack_of f ≡ stack_before held f.frame = λ i. record { top = record { chunk = sym chunks i; machine = f.frame.machine }; callers = sym waits i } in
      let asking : GivesHere (parked_runs p w) (state_of f.frame) taken behind = subst (λ (r : Runs). GivesHere r (state_of f.frame) taken behind) (sym same_body) h.asking in
      record {
        before = f.frame;
        asking = asking;
        lent = subst (λ (x : FrameState V I). Replaces taken taken f.frame x) (sym ef) h.lent;
        asked = subst (λ (n : ℕ). IsAsked p w.chunk f.frame.machine.address asking.op n) asking.gives.needs_so asking.at.asked;
        reached = come_same p depth chunk turns turns (stack_of f) (stack_before held f.frame) come refl same;
      }

  pub is_held : IsParked p w → IsAwaiting p held
  is_held parked =
      let here : GivesHere f.body (state_of g.frame) taken behind = lent_asking f.body f.frame g.frame taken behind h.asking h.lent in
      let there : GivesHere f.body (state_of w.frame) taken behind = subst (λ (x : FrameState V I). GivesHere f.body (state_of x) taken behind) (sym ef) here in
      record { parked = parked; asking = subst (λ (r : Runs). GivesHere r (state_of w.frame) taken behind) (sym same_body) there }

-- The frames of a run that waits, revived.
module _ {V I : Type 0} (p : Program) (w : Waiting V I) (f : Frames V I) (eb : f.body ≡ parked_runs p w.frames) (ef : f.frame ≡ w.frames.frame)
    (ek : f.callers.items ≡ w.frames.callers.items) where
  pub asks_again : IsAwaiting p w → GivesHere f.body (state_of f.frame) w.takes w.next
  asks_again h =
      subst (λ (r : Runs). GivesHere r (state_of f.frame) w.takes w.next) (sym eb)
      (subst (λ (x : FrameState V I). GivesHere (parked_runs p w.frames) (state_of x) w.takes w.next) (sym ef) h.asking)

  as_held : stack_of f ≡ parked_stack w.frames
  as_held = revived_as p f w.frames eb ef ek

  -- it makes a turn
  pub halted_on : (t : CallStack V I) → ((depth : ℕ) → Turns f.body.program depth (stack_of f) t) → AreKept p t → (depth : ℕ) (chunk : Span) (turns : ℕ)
      → AwaitsValue p depth chunk turns w → HasReached p depth chunk (turns + 1) t
  halted_on t goes kept depth chunk turns h =
      let here : Turns p depth (parked_stack w.frames) t = subst (λ (s : CallStack V I). Turns p depth s t) as_held (subst (λ (r : Runs). Turns r.program depth (stack_of f) t) eb (goes depth)) in
      come_on p depth chunk turns (turns + 1) (stack_before w h.before) t h.reached
      (turns_before (parked_runs p w.frames) h.before w.frames.frame w.takes w.next h.asking h.lent (waiting_of w.frames.callers.items) t depth here) kept refl

  -- or a fault ends it
  pub halted_end : {F : Type 0} (at : ℕ) (outcome : Outcome V F) → at ≡ (outermost_of (stack_of f)).machine.address
      → IsFaultOf ((stack_of f).top ∷ (stack_of f).callers) outcome → (depth : ℕ) (chunk : Span) (turns : ℕ)
      → AwaitsValue p depth chunk turns w → HasEnded I p depth chunk turns at outcome
  halted_end at outcome place e depth chunk turns h =
      let fault = subst (λ (s : CallStack V I). IsFaultOf (s.top ∷ s.callers) outcome) as_held e in
      record {
        stack = stack_before w h.before;
        reached = h.reached;
        here = outermost_before p depth chunk turns w h ∙ sym (place ∙ ap (λ (s : CallStack V I). (outermost_of s).machine.address) as_held);
        ends = fault_before (parked_runs p w.frames) h.before w.frames.frame w.takes w.next h.asking h.lent (waiting_of w.frames.callers.items) outcome fault;
      }
