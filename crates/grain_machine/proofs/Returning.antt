-- Frames that wait, and go on.
use Rattle.std.proofs.Common.{◌≡◌, ◌+◌, ◌-◌, ◌≤◌, List, [], ◌∷◌, ◌++◌, Option, IfSome, length, refl, ◌∙◌, subst, arith}
use Rattle.std.specs.List.{All}
use Rattle.std.proofs.lemmas.List.Elements.{All-cons, All-weaker}
use Rattle.grain.specs.Program.{Program}
use Rattle.grain_rules.specs.Machine.{IsOnKeptRun}
use Rattle.grain_machine.specs.Asked.{program_code}
use Rattle.grain_machine.specs.Calls.{Activation, IsCaughtBy, IsGivenBack, catcher}
use Rattle.grain_machine.specs.Standing.{IsStanding, IsWaiting, activation_of, runs_of, stack_of}
use Rattle.grain_machine.specs.State.{FrameState, IsUnderWay, MakesMove, state_of}
use Rattle.grain_machine.specs.Values.{Lands, below, counted}
use Rattle.grain_machine.specs.declared.frames.Caller.{Caller}
use Rattle.grain_machine.specs.declared.frames.Frames.{Frames}
use Rattle.grain_machine.proofs.Calling.{all_waiting, caught_first}
use Rattle.grain_machine.proofs.Moves.{plain_room, ready_again}
use Rattle.grain_machine.proofs.Passing.{filled, plain_went, whole_back}

-- there is room for what the function returns
pub room_to_go_on : {V I : Type 0} (p : Program) (w : Caller V I) → IsWaiting p w → length w.frame.machine.operands - w.takes + 1 ≤ w.frame.room
room_to_go_on p w h = plain_room (runs_of p w) (state_of w.frame) h.op w.next w.takes w.takes 1 h.at h.gives

-- what the function takes is there
pub there_to_go_on : {V I : Type 0} (p : Program) (w : Caller V I) → IsWaiting p w → w.takes ≤ length w.frame.machine.operands
there_to_go_on p w h = let n = h.at.finds.meets.operands in let e = h.gives.needs_so in omega (arith, n, e)

-- where it goes on with this value
abbrev pub gone_on : {V I : Type 0} → Caller V I → V → FrameState V I
gone_on w value = filled w.next (below w.takes w.frame.machine.operands ++ value ∷ []) w.frame.machine.iterators w.frame.machine.handlers w.frame.room

pub goes_on_there : {V I : Type 0} (p : Program) (w : Caller V I) (value : V) → IsWaiting p w → MakesMove (runs_of p w) w.frame (gone_on w value)
goes_on_there p w value h = plain_went (runs_of p w) w.frame h.op w.next h.at w.takes w.takes 1 h.gives (omega arith) (value ∷ []) (omega arith)

pub ready_there : {V I : Type 0} (p : Program) (w : Caller V I) (value : V) → IsWaiting p w → IsUnderWay (runs_of p w) (state_of (gone_on w value))
ready_there p w value h = ready_again (runs_of p w) (state_of w.frame) (state_of (gone_on w value)) h.at.ready (goes_on_there p w value h).goes

pub given_back : {V I : Type 0} (p : Program) (w : Caller V I) (returned : Option V) (value : V) (rest callers : List (Activation V I)) → IsWaiting p w
    → IfSome returned (λ v. value ≡ v) → callers ≡ activation_of w ∷ rest
    → IsGivenBack p callers returned (record { top = record { chunk = w.chunk; machine = (gone_on w value).machine }; callers = rest })
given_back p w returned value rest callers h given e =
    let goes = goes_on_there p w value h in
    record {
      caller = activation_of w;
      called = e;
      taken = w.takes;
      behind = w.next;
      value = value;
      may = record { op = h.op; finds = h.at.finds; gives = h.gives; next = h.at.next };
      given = given;
      goes = record { chunk = refl; moves = goes.goes.0; passes = goes.passes };
      lands = refl;
    }

-- a fault that a frame catches which waits
caught_move : {V I : Type 0} (p : Program) (w : Caller V I) (t : FrameState V I) → IsWaiting p w → Lands w.frame.machine t.machine → t.room ≡ w.frame.room → MakesMove (runs_of p w) w.frame t
caught_move p w t h lands room = whole_back (runs_of p w) w.frame h.op w.next h.at w.frame t h.gives.sounds refl lands room

pub ready_caught : {V I : Type 0} (p : Program) (w : Caller V I) (t : FrameState V I) → IsWaiting p w → Lands w.frame.machine t.machine → t.room ≡ w.frame.room → IsUnderWay (runs_of p w) (state_of t)
ready_caught p w t h lands room = ready_again (runs_of p w) (state_of w.frame) (state_of t) h.at.ready (caught_move p w t h lands room).goes

pub caught_by : {V I : Type 0} (p : Program) (w : Caller V I) (t : FrameState V I) (rest callers : List (Activation V I)) → IsWaiting p w → Lands w.frame.machine t.machine
    → t.room ≡ w.frame.room → catcher callers ≡ catcher (activation_of w ∷ rest)
    → IsCaughtBy p callers (record { top = record { chunk = w.chunk; machine = t.machine }; callers = rest })
caught_by p w t rest callers h lands room e =
    let goes = caught_move p w t h lands room in
    record {
      caller = activation_of w;
      catches = e ∙ caught_first (activation_of w) rest (lands.handler, lands.outer) lands.caught;
      goes = record { chunk = refl; moves = goes.goes.0; passes = goes.passes };
      lands = lands;
    }

-- each frame is on a kept run of its chunk
kept_waiting : {V I : Type 0} (p : Program) (w : Caller V I) → IsWaiting p w → IsOnKeptRun (program_code p) w.chunk (counted w.frame.machine)
kept_waiting p w h = h.at.ready.0

pub kept_frames : {V I : Type 0} (p : Program) (f : Frames V I) → IsStanding p f
    → All (λ a. IsOnKeptRun (program_code p) a.chunk (counted a.machine)) ((stack_of f).top ∷ (stack_of f).callers)
kept_frames {V} {I} p f h =
    let top = subst (λ (q : Program). IsOnKeptRun (program_code q) f.body.chunk (counted f.frame.machine)) h.program h.ready.0 in
    let kept : Activation V I → Type 0 = λ a. IsOnKeptRun (program_code p) a.chunk (counted a.machine) in
    All-cons kept (stack_of f).top (stack_of f).callers top
    (all_waiting kept f.callers.items (All-weaker (IsWaiting p) (λ w. kept (activation_of w)) (kept_waiting p) f.callers.items h.waiting))
