-- What the host is asked for.
use Rattle.std.specs.Prelude.{◌≡◌, ℕ, false}
use Rattle.std.specs.List.{Contains}
use Rattle.grain_code.specs.Span.{Span}
use Rattle.grain_code.specs.declared.op.Op.{Op}
use Rattle.grain_rules.specs.Accepted.{IsAccepted}
use Rattle.grain_rules.specs.Capabilities.{Allows}
use Rattle.grain_rules.specs.Code.{Code, coded}
use Rattle.grain_rules.specs.Machine.{Finds, IsOnKeptRun, Machine}
use Rattle.grain_rules.specs.Flow as flows
use Rattle.grain_rules.specs.Rows.{caps_of, flow_of, gives, is_quiet, needs, takes}
use Rattle.grain_rules.specs.Setting.{Setting}
use Rattle.grain.specs.Lookups.{AreFound}
use Rattle.grain.specs.Program.{Program, chunks_of, input_of, setting_of}

-- an operation that takes and gives operands, falls through and may fail
pub record IsForHost (s : Setting) (op : Op) (needed taken given : ℕ) : Type 0 where
  pub needs_so : needs s op ≡ needed
  pub takes_so : takes s op ≡ taken
  pub gives_so : gives s op ≡ given
  pub falls : flow_of op ≡ flows.Falls
  pub sounds : is_quiet op ≡ false

-- the code of a program
abbrev pub program_code : Program → Code
program_code p = coded (input_of p).code

-- a kept run of the chunk is at this address, and finds the operation there, with all that it needs of the stacks
pub record IsMet (p : Program) (chunk : Span) (at : ℕ) (op : Op) : Type 0 where
  pub state : Machine
  pub on_run : IsOnKeptRun (program_code p) chunk state
  pub here : state.address ≡ at
  pub finds : Finds (program_code p) chunk state op

-- The program is accepted and the chunk is one of its own. A kept run of it meets the operation at this address, its
-- capabilities are there, its indices are found, and it is given just the operands that it needs.
pub record IsAsked (p : Program) (chunk : Span) (at : ℕ) (op : Op) (n : ℕ) : Type 0 where
  pub accepted : IsAccepted (input_of p)
  pub among : Contains (chunks_of p) chunk
  pub met : IsMet p chunk at op
  pub allowed : Allows p.caps.0 (caps_of (setting_of p) op)
  pub found : AreFound p op
  pub operands : n ≡ needs (setting_of p) op

-- a kept run of the accepted program meets the operation there, with all that it needs
abbrev pub IsRequested : Program → Span → ℕ → Op → Type 0
IsRequested p chunk at op = IsAsked p chunk at op (needs (setting_of p) op)
