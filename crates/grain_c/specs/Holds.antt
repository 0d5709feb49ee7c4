-- What a handle of a file keeps.
use mathlib.Core.Bool.{Bool, true, false}
use base.Fml.{Fml, ftrue}
use mathlib.Core.List.{[]}
use base.Stored.{Coded}
use denote.RawPtr.{Ptr}
use Rattle.std.specs.Prelude.{None}
use Rattle.std.specs.Box.Ownership.{box_owns}
use Rattle.std.specs.Global.{Global}
use Rattle.std.specs.contracts.impls.GlobalAllocator.TheImpl.{ghosts}
use Rattle.grain_flat_file.specs.contracts.contents.FlatFile.{the_row}

abbrev pub content_code : Coded the_row.Denot
content_code = the_row.coded

-- what stands for the content of a handle that keeps nothing
abbrev pub no_content : the_row.Denot
no_content = record {
  caps = record { 0 = 0 };
  code = [];
  main = record { entry = 0; end = 0; max_stack = 0 };
  functions = [];
  positions = None;
  debug_id = 0;
  residuals = 0;
  consts = [];
  names = [];
  tokens = [];
  assign_ops = [];
  chains = [];
  switches = [];
  source = None;
}

-- the heap, which is one value
abbrev pub heap : Global
heap = record { memory = record { seal = tt } }

-- if something is kept, it in a block of the heap and the right to free that block; else nothing
abbrev pub holds : Bool → Ptr → the_row.Denot → Fml
holds true p x = box_owns (ghosts.dealloc_token heap) the_row p x
holds false p x = ftrue
