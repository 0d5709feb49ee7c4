-- What a handle of a session keeps.
use mathlib.Core.Bool.{Bool, true, false}
use mathlib.Core.List.{[]}
use base.Fml.{Fml, ftrue}
use base.Stored.{Coded}
use denote.RawPtr.{Ptr}
use Rattle.std.specs.Prelude.{None}
use Rattle.std.specs.Box.Ownership.{box_owns}
use Rattle.std.specs.Global.{Global}
use Rattle.std.specs.contracts.impls.GlobalAllocator.TheImpl.{ghosts}
use Rattle.grain.specs.Program.{Program}
use Rattle.rhai_engine.specs.Session.{idle}
use Rattle.rhai_session.specs.Shown.{shown_of}
use Rattle.rhai_session.specs.contracts.session.Session.{the_row}

abbrev pub session_code : Coded the_row.Denot
session_code = the_row.coded

abbrev no_program : Program
no_program = record {
  caps = record { 0 = 0 };
  code = [];
  main = record { entry = 0; end = 0; max_stack = 0 };
  functions = [];
  positions = None;
  debug_id = 0;
  residuals = 0;
  consts = [];
  names = [];
  tokens = [];
  assign_ops = [];
  chains = [];
  switches = [];
  source = None;
}

-- the content of a handle that keeps nothing, which no call reads
abbrev pub no_session : the_row.Denot
no_session = shown_of (idle no_program 0 0) None [] [] 0 [] None

-- the heap, which is one value
abbrev pub the_heap : Global
the_heap = record { memory = record { seal = tt } }

-- if something is kept, it in a block of the heap and the right to free that block; else nothing
abbrev pub holds_session : Bool → Ptr → the_row.Denot → Fml
holds_session true p x = box_owns (ghosts.dealloc_token the_heap) the_row p x
holds_session false p x = ftrue
