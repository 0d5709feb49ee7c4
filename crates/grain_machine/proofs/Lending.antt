-- A frame whose operands were lent to the host goes on as the same frame.
use Rattle.std.proofs.Common.{◌≡◌, ℕ, ◌+◌, ◌-◌, ◌≤◌, inl, inr, List, ◌∷◌, ◌++◌, Option, Some, None, Result, Ok, Err, IfErr, IsSome, false, true, length, refl, sym, ap, ◌∙◌, subst, arith}
use Rattle.std.specs.Option.{option_map_or}
use Rattle.grain_code.specs.declared.op.Op.{Op}
use Rattle.grain_code.specs.declared.op.Op.TheVariants as ops
use Rattle.grain_rules.proofs.OperationUniqueness.{stands_once}
use Rattle.grain_rules.specs.Effects.{iterators_needed}
use Rattle.grain_rules.specs.Machine.{Finds, Handler, Machine, Moves, innermost}
use Rattle.grain_rules.specs.Rows.{is_quiet, needs}
use Rattle.grain.specs.Program.{Program, setting_of}
use Rattle.grain_machine.specs.Asked.{IsForHost, program_code}
use Rattle.grain_machine.specs.Calls.{Activation, CallStack, IsCalled, MovesOn, Sounds, Turns, catcher}
use Rattle.grain_machine.specs.Ends.{IsFaultOf, StackEnds}
use Rattle.grain_machine.specs.State.{FrameState, IsAt, Runs, frame_with_operands, state_of}
use Rattle.grain_machine.specs.Values.{KeepsFirst, below, counted, touched}
use Rattle.grain_machine.specs.declared.step.Outcome.{Outcome}
use Rattle.grain_machine.specs.declared.step.Outcome.TheVariants as outcomes
use Rattle.grain_machine.proofs.Calling.{uncaught_first}
use Rattle.grain_machine.proofs.Keeping.{kept_before, kept_on, length-replaced}
use Rattle.grain_machine.proofs.Passing.{no_rotation, plain_keeps, plain_there}

abbrev pub frame_of : {V I : Type 0} → Runs → FrameState V I → Activation V I
frame_of r s = record { chunk = r.chunk; machine = s.machine }

module _ {V I : Type 0} (r : Runs) (s : FrameState V I) (op : Op) (behind taken : ℕ) (at : IsAt r (state_of s) op behind)
    (plain : IsForHost (setting_of r.program) op taken taken 1) (others : List V) (long : length others ≡ taken) where
  abbrev lent : FrameState V I
  lent = frame_with_operands (below taken s.machine.operands ++ others) s

  as_long : length lent.machine.operands ≡ length s.machine.operands
  as_long =
      let there : taken ≤ length s.machine.operands = plain_there r s op behind at taken taken 1 plain in
      let left : length lent.machine.operands ≡ length s.machine.operands - taken + length others = length-replaced taken s.machine.operands others in
      omega (arith, there, left, long)

  same_counts : counted lent.machine ≡ counted s.machine
  same_counts = λ i. record { address = s.machine.address; operands = as_long i; iterators = length s.machine.iterators; handlers = s.machine.handlers }

  pub same_state : state_of lent ≡ state_of s
  same_state = λ i. record { machine = same_counts i; room = s.room }

  lent_moves : (b : Activation V I) → MovesOn r.program (frame_of r lent) b → MovesOn r.program (frame_of r s) b
  lent_moves b goes =
      let same : goes.passes.op ≡ op = stands_once r.program.code s.machine.address goes.passes.op op goes.passes.stands at.finds.stands.is in
      let after : KeepsFirst (length s.machine.operands - touched (setting_of r.program) op) lent.machine.operands b.machine.operands =
      subst (λ (o : Op). KeepsFirst (length s.machine.operands - touched (setting_of r.program) o) lent.machine.operands b.machine.operands) same
      (subst (λ (n : ℕ). KeepsFirst (n - touched (setting_of r.program) goes.passes.op) lent.machine.operands b.machine.operands) as_long goes.passes.operands) in
      record {
        chunk = goes.chunk;
        moves = subst (λ (m : Machine). Moves (program_code r.program) r.chunk m (counted b.machine)) same_counts goes.moves;
        passes = record {
          op = op;
          stands = at.finds.stands.is;
          operands = kept_on (length s.machine.operands - touched (setting_of r.program) op) s.machine.operands lent.machine.operands b.machine.operands as_long
              (plain_keeps r s op behind at taken taken 1 plain others) after;
          iterators = subst (λ (o : Op). KeepsFirst (length s.machine.iterators - iterators_needed o) s.machine.iterators b.machine.iterators) same goes.passes.iterators;
          rotates = λ depth e. absurd (no_rotation op plain.sounds depth e);
        };
      }

  lent_waits : (t : CallStack V I) (callers : List (Activation V I)) (depth : ℕ)
      → IsCalled r.program depth (record { top = frame_of r lent; callers = callers }) t → IsCalled r.program depth (record { top = frame_of r s; callers = callers }) t
  lent_waits t callers depth called =
      let same : called.may.op ≡ op = stands_once r.program.code s.machine.address called.may.op op called.may.finds.stands.is at.finds.stands.is in
      let as_many : called.taken ≡ taken = sym called.may.gives.needs_so ∙ ap (needs (setting_of r.program)) same ∙ plain.needs_so in
      let before : KeepsFirst (length s.machine.operands - called.taken) s.machine.operands lent.machine.operands =
      subst (λ (n : ℕ). KeepsFirst (length s.machine.operands - n) s.machine.operands lent.machine.operands) (sym as_many)
      (kept_before (length s.machine.operands - taken) s.machine.operands others (omega arith)) in
      let after : KeepsFirst (length s.machine.operands - called.taken) lent.machine.operands called.caller.machine.operands =
      subst (λ (n : ℕ). KeepsFirst (n - called.taken) lent.machine.operands called.caller.machine.operands) as_long called.waits.operands in
      record {
        function = called.function;
        chunk = called.chunk;
        taken = called.taken;
        behind = called.behind;
        caller = called.caller;
        may = record {
          op = called.may.op;
          finds = subst (λ (m : Machine). Finds (program_code r.program) r.chunk m called.may.op) same_counts called.may.finds;
          gives = called.may.gives;
          next = called.may.next;
        };
        there = called.there;
        top = called.top;
        waits = record {
          chunk = called.waits.chunk;
          counts = called.waits.counts ∙ same_counts;
          operands = kept_on (length s.machine.operands - called.taken) s.machine.operands lent.machine.operands called.caller.machine.operands as_long before after;
          iterators = called.waits.iterators;
        };
        callers = called.callers;
        within = called.within;
      }

  pub lent_turns : (t : CallStack V I) (callers : List (Activation V I)) (depth : ℕ)
      → Turns r.program depth (record { top = frame_of r lent; callers = callers }) t → Turns r.program depth (record { top = frame_of r s; callers = callers }) t
  lent_turns t callers depth (inl (inl moved)) = inl (inl (record { goes = lent_moves t.top moved.goes; callers = moved.callers }))
  lent_turns t callers depth (inl (inr left)) = inl (inr (record { sounds = left.sounds; uncaught = left.uncaught; caught = left.caught }))
  lent_turns t callers depth (inr (inl called)) = inr (inl (lent_waits t callers depth called))
  lent_turns t callers depth (inr (inr back)) =
      let same : op ≡ ops.Return = stands_once r.program.code s.machine.address op ops.Return at.finds.stands.is back.returns in
      let quiet : true ≡ is_quiet op = ap is_quiet (sym same) in
      absurd (let f : true ≡ false = quiet ∙ plain.sounds in cc)

-- a fault that finds these frames may end a run where what stands isn't quiet, whatever the operands of the one on top
module _ {V I : Type 0} (a b : Activation V I) (callers : List (Activation V I)) (same : a.machine.handlers ≡ b.machine.handlers) where
  found_none : (o : Option (Handler × List Handler)) → option_map_or (λ _. Some (a, callers)) o (catcher callers) ≡ None
      → option_map_or (λ _. Some (b, callers)) o (catcher callers) ≡ None
  found_none None e = e
  found_none (Some h) e = absurd (let f : Some (a, callers) ≡ None = e in cc)

  found_some : (o : Option (Handler × List Handler)) → IsSome (option_map_or (λ _. Some (a, callers)) o (catcher callers))
      → IsSome (option_map_or (λ _. Some (b, callers)) o (catcher callers))
  found_some None e = e
  found_some (Some h) e = refl

  pub stack_fault : {F : Type 0} (p : Program) (outcome : Outcome V F) → Sounds (program_code p) b.machine.address → IsFaultOf (a ∷ callers) outcome
      → StackEnds p (record { top = b; callers = callers }) outcome
  stack_fault p (outcomes.Returned v) sounds e = absurd e
  stack_fault p (outcomes.Faulted x) sounds e =
      (sounds, subst (λ (hs : List Handler). option_map_or (λ _. Some (b, callers)) (innermost hs) (catcher callers) ≡ None) same (found_none (innermost a.machine.handlers) e))
  stack_fault p (outcomes.Uncatchable x) sounds e =
      (sounds, subst (λ (hs : List Handler). IsSome (option_map_or (λ _. Some (b, callers)) (innermost hs) (catcher callers))) same (found_some (innermost a.machine.handlers) e))
  stack_fault p outcomes.OutOfFuel sounds e = absurd e
  stack_fault p outcomes.OutOfMemory sounds e = absurd e
  stack_fault p outcomes.Unanswered sounds e = absurd e

  pub stack_faults : {T F : Type 0} (p : Program) (result : Result T (Outcome V F)) → Sounds (program_code p) b.machine.address → IfErr result (IsFaultOf (a ∷ callers))
      → IfErr result (StackEnds p (record { top = b; callers = callers }))
  stack_faults p (Ok v) sounds e = tt
  stack_faults p (Err outcome) sounds e = stack_fault p outcome sounds e

-- a fault that leaves the frame on top ends the run as it ends in those that wait
fault_beyond : {V I F : Type 0} (a : Activation V I) (callers : List (Activation V I)) (outcome : Outcome V F) → innermost a.machine.handlers ≡ None
    → IsFaultOf callers outcome → IsFaultOf (a ∷ callers) outcome
fault_beyond a callers (outcomes.Returned v) none e = absurd e
fault_beyond a callers (outcomes.Faulted x) none e = uncaught_first a callers none ∙ e
fault_beyond {V} {I} a callers (outcomes.Uncatchable x) none e =
    subst (λ (o : Option (Activation V I × List (Activation V I))). IsSome o) (sym (uncaught_first a callers none)) e
fault_beyond a callers outcomes.OutOfFuel none e = absurd e
fault_beyond a callers outcomes.OutOfMemory none e = absurd e
fault_beyond a callers outcomes.Unanswered none e = absurd e

pub faults_beyond : {T V I F : Type 0} (a : Activation V I) (callers : List (Activation V I)) (result : Result T (Outcome V F)) → innermost a.machine.handlers ≡ None
    → IfErr result (IsFaultOf callers) → IfErr result (IsFaultOf (a ∷ callers))
faults_beyond a callers (Ok v) none e = tt
faults_beyond a callers (Err outcome) none e = fault_beyond a callers outcome none e
