-- What contracts see of a frame and of a chunk that can be run.
use Rattle.std.specs.Prelude.{◌≡◌, ℕ, List, [], ◌∷◌, ◌++◌, Some, length, map, reverse, slice_get}
use Rattle.grain_code.specs.Span.{Span}
use Rattle.grain_code.specs.declared.op.Op.{Op}
use Rattle.grain_rules.specs.Accepted.{IsAccepted, IsSafe}
use Rattle.grain_rules.specs.Rows.{needs}
use Rattle.grain_rules.specs.Layout.{next as place_behind}
use Rattle.grain.specs.Lookups.{FindsIndices}
use Rattle.grain_rules.specs.Machine.{Finds, Handler, IsOnKeptRun, Machine, Moves}
use Rattle.grain.specs.Program.{Program, chunks_of, input_of, setting_of}
use Rattle.grain_rules.specs.Typing.{HasTyping}
use Rattle.grain_machine.specs.Asked.{IsAsked, program_code}
use Rattle.grain_machine.specs.Values.{PassesOn, ValueMachine, below, counted}
use Rattle.grain_machine.specs.declared.frame.Armed.{Armed}

-- the machine as it is defined, and how many operands there is room for
pub record State : Type 0 where
  pub machine : Machine
  pub room : ℕ

-- what contracts see of a frame: the machine with its values, and how many operands there is room for
pub record FrameState (V I : Type 0) : Type 0 where
  pub machine : ValueMachine V I
  pub room : ℕ

abbrev pub state_of : {V I : Type 0} → FrameState V I → State
state_of f = record { machine = counted f.machine; room = f.room }

-- the same frame at another address, or with other operands, iterators or handlers
abbrev pub frame_at : {V I : Type 0} → ℕ → FrameState V I → FrameState V I
frame_at address f = record f { machine = record f.machine { address = address } }

abbrev pub frame_with_operands : {V I : Type 0} → List V → FrameState V I → FrameState V I
frame_with_operands operands f = record f { machine = record f.machine { operands = operands } }

abbrev pub frame_with_iterators : {V I : Type 0} → List I → FrameState V I → FrameState V I
frame_with_iterators iterators f = record f { machine = record f.machine { iterators = iterators } }

abbrev pub frame_with_handlers : {V I : Type 0} → List Handler → FrameState V I → FrameState V I
frame_with_handlers handlers f = record f { machine = record f.machine { handlers = handlers } }

-- this number of the topmost operands was replaced by that number of others
abbrev pub Replaces : {V I : Type 0} → ℕ → ℕ → FrameState V I → FrameState V I → Type 0
Replaces {V} taken given f g = (others : List V) × (length others ≡ given) × (g ≡ frame_with_operands (below taken f.machine.operands ++ others) f)

-- the innermost iterator went on
abbrev pub Advances : {V I : Type 0} → FrameState V I → FrameState V I → Type 0
Advances {V} {I} f g = (iterator : I) × (g ≡ frame_with_iterators (below 1 f.machine.iterators ++ iterator ∷ []) f)

abbrev pub handler_of : Armed → Handler
handler_of a = record { target = a.target; operands = a.operands; iterators = a.iterators; spent = a.spent }

-- the last that was armed comes first
abbrev pub innermost_first : List Armed → List Handler
innermost_first all = map handler_of (reverse all)

-- a chunk of a program, and how many operands are room for each run of it
pub record Runs : Type 0 where
  pub program : Program
  pub chunk : Span
  pub room : ℕ

-- The program is accepted, and its lookups find what its code names. The chunk is one of its own, and the room is its number:
-- it is typed within it, and no kept run has more operands, while some has as many.
pub record IsRunnable (r : Runs) : Type 0 where
  pub accepted : IsAccepted (input_of r.program)
  pub place : ℕ
  pub there : slice_get (chunks_of r.program) place ≡ Some r.chunk
  pub safe : IsSafe (input_of r.program).code r.chunk r.room
  pub typed : HasTyping (program_code r.program) r.chunk r.room
  pub finds : FindsIndices r.program

-- some kept run of the chunk is in this state, with just the room of the chunk
abbrev pub IsUnderWay : Runs → State → Type 0
IsUnderWay r s = IsOnKeptRun (program_code r.program) r.chunk s.machine × (s.room ≡ r.room)

-- the run finds this operation, behind which the next one stands there
pub record IsAt (r : Runs) (s : State) (op : Op) (behind : ℕ) : Type 0 where
  pub runs : IsRunnable r
  pub ready : IsUnderWay r s
  pub finds : Finds (program_code r.program) r.chunk s.machine op
  pub next : behind ≡ place_behind (program_code r.program).layout s.machine.address op
  pub asked : IsAsked r.program r.chunk s.machine.address op (needs (setting_of r.program) op)

-- the run makes a move, by its counts
abbrev pub Goes : Runs → State → State → Type 0
Goes r s t = Moves (program_code r.program) r.chunk s.machine t.machine × (t.room ≡ s.room)

-- the run makes a move
pub record MakesMove {V I : Type 0} (r : Runs) (f g : FrameState V I) : Type 0 where
  pub goes : Goes r (state_of f) (state_of g)
  pub passes : PassesOn r.program f.machine g.machine
