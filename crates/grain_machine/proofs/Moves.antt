-- What moves a run makes.
use Rattle.std.proofs.Common.{◌≡◌, ℕ, ◌+◌, ◌-◌, ◌≤◌, inl, inr, true, false, List, ◌∷◌, min, Some, refl, sym, ap, ◌∙◌, arith}
use Rattle.std.specs.List.{Contains}
use Rattle.grain_code.specs.declared.op.Op.{Op}
use Rattle.grain_rules.specs.Counts.{Counts}
use Rattle.grain_rules.specs.Effects.{after_fall, after_jump, falls_through, operands_after, targets}
use Rattle.grain_rules.specs.Flow as flows
use Rattle.grain_rules.specs.Flow.{Flow}
use Rattle.grain_rules.specs.FlowFields.{fall_for, falls_for, jumps_for}
use Rattle.grain_rules.specs.Layout.{switches}
use Rattle.grain_rules.specs.Machine.{Catches, Handler, IsKept, Machine, counts, handlers_after, handlers_behind, innermost}
use Rattle.grain.specs.Program.{setting_of}
use Rattle.grain_rules.specs.Rows.{flow_of, is_quiet, takes}
use Rattle.grain_rules.proofs.Law.{typing_covers_run}
use Rattle.grain_rules.proofs.Quiet.{move_from_run}
use Rattle.grain_machine.specs.Asked.{IsForHost, program_code}
use Rattle.grain_machine.specs.State.{Goes, IsAt, IsUnderWay, IsRunnable, Runs, State}

-- the state with this machine, and room as before
abbrev pub stood : ℕ → ℕ → ℕ → List Handler → ℕ → State
stood address operands iterators handlers room = record { machine = record { address = address; operands = operands; iterators = iterators; handlers = handlers }; room = room }

-- an operation that falls through
pub goes_on : (r : Runs) (s : State) (op : Op) (behind x y : ℕ) (hs : List Handler) → IsAt r s op behind → falls_through op ≡ true
    → x ≡ (after_fall (setting_of r.program) op (counts s.machine)).operands → y ≡ (after_fall (setting_of r.program) op (counts s.machine)).iterators
    → hs ≡ handlers_after op s.machine → Goes r s (stood behind x y hs s.room)
goes_on r s op behind x y hs at falls ex ey eh =
    let counted = after_fall (setting_of r.program) op (counts s.machine) in
    (inl (record { op = op; counted = counted; finds = at.finds; edge = inr (falls, at.next, refl); operands = ex; iterators = ey; handlers = eh }), refl)

-- an operation that jumps
pub goes_to : (r : Runs) (s : State) (op : Op) (behind target x y : ℕ) (hs : List Handler) → IsAt r s op behind → jumps_for (flow_of op) ≡ true
    → Contains (targets (switches (program_code r.program).layout) op) target → x ≡ (after_jump (setting_of r.program) op (counts s.machine)).operands
    → y ≡ (after_jump (setting_of r.program) op (counts s.machine)).iterators → hs ≡ handlers_after op s.machine
    → Goes r s (stood target x y hs s.room)
goes_to r s op behind target x y hs at jumps among ex ey eh =
    let counted = after_jump (setting_of r.program) op (counts s.machine) in
    (inl (record { op = op; counted = counted; finds = at.finds; edge = inl (jumps, (among, refl)); operands = ex; iterators = ey; handlers = eh }), refl)

-- a fault lands there, by the counts
pub record LandsSo (m n : Machine) : Type 0 where
  pub handler : Handler
  pub outer : List Handler
  pub caught : innermost m.handlers ≡ Some (handler, outer)
  pub lands : n ≡ record {
    address = handler.target;
    operands = min m.operands handler.operands;
    iterators = min m.iterators handler.iterators;
    handlers = record handler { spent = true } ∷ outer;
  }

-- a fault that finds the stacks as they are then
pub goes_back : (r : Runs) (s x t : State) (op : Op) (behind : ℕ) → IsRunnable r → IsAt r s op behind → is_quiet op ≡ false
    → x.machine.handlers ≡ s.machine.handlers → s.machine.operands - takes (setting_of r.program) op ≤ x.machine.operands
    → x.machine.operands ≤ s.machine.operands → x.machine.iterators ≡ s.machine.iterators → x.room ≡ s.room → LandsSo x.machine t.machine
    → t.room ≡ x.room → Goes r s t
goes_back r s x t op behind runs at sounds eh low high ei er lands et =
    let fault : Catches (program_code r.program) r.chunk s.machine t.machine = record {
      op = op;
      operands_found = x.machine.operands;
      iterators_found = x.machine.iterators;
      handler = lands.handler;
      outer = lands.outer;
      finds = at.finds;
      operands_low = low;
      operands_high = high;
      iterators_low = omega arith;
      iterators_high = omega arith;
      caught = ap innermost (sym eh) ∙ lands.caught;
      lands = lands.lands;
    } in
    let loud : is_quiet op ≡ true → IsKept fault = λ q. absurd (let e : true ≡ false = sym q ∙ sounds in cc) in
    (move_from_run (program_code r.program) r.chunk r.room runs.typed s.machine t.machine at.ready.0 (inr (fault, loud)), et ∙ er)

-- a move leads to a state of a kept run
pub ready_again : (r : Runs) (s t : State) → IsUnderWay r s → Goes r s t → IsUnderWay r t
ready_again r s t ready goes = ((s.machine ∷ ready.0.0, (goes.0, ready.0.1)), let e = goes.1 in let l = ready.1 in omega arith)

-- there is room for the operands after a move
pub room_for : (r : Runs) (s t : State) → IsRunnable r → IsUnderWay r s → Goes r s t → t.machine.operands ≤ s.room
room_for r s t runs ready goes =
    let after = ready_again r s t ready goes in
    let l = (typing_covers_run (program_code r.program) r.chunk r.room runs.typed.0 runs.typed.1 t.machine after.0).1 in
    let h = ready.1 in
    omega arith

-- after an operation that falls through there is room for what it leaves
pub room_on : (r : Runs) (s : State) (op : Op) (behind : ℕ) → IsAt r s op behind → falls_through op ≡ true → (after_fall (setting_of r.program) op (counts s.machine)).operands ≤ s.room
room_on r s op behind at falls =
    let c = after_fall (setting_of r.program) op (counts s.machine) in
    room_for r s (stood behind c.operands c.iterators (handlers_after op s.machine) s.room) at.runs at.ready (goes_on r s op behind c.operands c.iterators (handlers_after op s.machine) at falls refl refl refl)

-- what a plain operation leaves
plain_after : (r : Runs) (s : State) (op : Op) (needs' takes' gives' : ℕ) → IsForHost (setting_of r.program) op needs' takes' gives'
    → after_fall (setting_of r.program) op (counts s.machine) ≡ record (counts s.machine) { operands = s.machine.operands - takes' + gives' }
plain_after r s op needs' takes' gives' plain =
    ap (λ (f : Flow). fall_for f (operands_after (setting_of r.program) op s.machine.operands) (counts s.machine)) plain.falls
    ∙ (λ i. record (counts s.machine) { operands = s.machine.operands - plain.takes_so i + plain.gives_so i })

plain_handlers : (m : Machine) (op : Op) → flow_of op ≡ flows.Falls → m.handlers ≡ handlers_after op m
plain_handlers m op e = ap (λ (f : Flow). handlers_behind f m) (sym e)

pub plain_on : (r : Runs) (s : State) (op : Op) (behind needs' takes' gives' x : ℕ) → IsAt r s op behind
    → IsForHost (setting_of r.program) op needs' takes' gives' → x ≡ s.machine.operands - takes' + gives'
    → Goes r s (stood behind x s.machine.iterators s.machine.handlers s.room)
plain_on r s op behind needs' takes' gives' x at plain e =
    let c = plain_after r s op needs' takes' gives' plain in
    goes_on r s op behind x s.machine.iterators s.machine.handlers at
    (ap falls_for plain.falls) (e ∙ ap (λ (d : Counts). d.operands) (sym c)) (ap (λ (d : Counts). d.iterators) (sym c)) (plain_handlers s.machine op plain.falls)

pub plain_room : (r : Runs) (s : State) (op : Op) (behind needs' takes' gives' : ℕ) → IsAt r s op behind
    → IsForHost (setting_of r.program) op needs' takes' gives' → s.machine.operands - takes' + gives' ≤ s.room
plain_room r s op behind needs' takes' gives' at plain = room_for r s _ at.runs at.ready (plain_on r s op behind needs' takes' gives' (s.machine.operands - takes' + gives') at plain refl)
