-- What each operation does: a row for each, in the order of the instruction table of docs/FORMAT.md.
use Rattle.std.specs.Prelude.{ℕ, ◌+◌, ◌-◌, ◌*◌, Bool, true, false}
use Rattle.std.specs.Int.RustNames.{bit_or}
use Rattle.grain_base.specs.CapBits.{ARRAY, MAP, FN_PTR, CURRYING, SHARING, THIS, EXPORT, IMPORT, CUSTOM_SYNTAX}
use Rattle.grain_code.specs.declared.op.Op.{Op}
use Rattle.grain_code.specs.declared.op.Op.TheVariants as ops
use Rattle.grain_code.specs.declared.op.Receiver.TheVariants as receiver
use Rattle.grain_rules.specs.Flow.{Flow, Falls, Ends, Jumps, Branches, Switches, BeginsIterator, AdvancesIterator, EndsIterator, PushesHandler, PopsHandler}
use Rattle.grain_rules.specs.Setting.{Setting, chain_asks, chain_takes, module_of, unset}

-- How many operands there have to be, how many are taken and how many are given; what is asked of the host; how the operation is
-- left; and whether it is quiet, so that it alone may find or leave less than stood when the last handler was armed.
pub record Row : Type 0 where
  pub needs : ℕ
  pub takes : ℕ
  pub gives : ℕ
  pub asks : ℕ
  pub flow : Flow
  pub quiet : Bool

abbrev pub does : ℕ → ℕ → ℕ → ℕ → Flow → Bool → Row
does needs takes gives asks flow quiet = record { needs = needs; takes = takes; gives = gives; asks = asks; flow = flow; quiet = quiet }

abbrev pub row : Setting → Op → Row
row s (ops.Const c) = does 0 0 1 0 Falls false
row s ops.Unit = does 0 0 1 0 Falls true
row s (ops.Bool b) = does 0 0 1 0 Falls true
row s (ops.LoadLocal slot) = does 0 0 1 0 Falls false
row s (ops.StoreLocal slot is_const) = does 1 1 0 0 Falls false
row s (ops.AssignLocal slot n op) = does 1 1 0 0 Falls false
row s (ops.DeclareLocal n is_const is_global) = does 1 1 0 0 Falls false
row s ops.Pop = does 1 1 0 0 Falls true
row s (ops.Jump j) = does 0 0 0 0 (Jumps j) false
row s (ops.JumpIfTrue j) = does 1 1 0 0 (Branches j) false
row s (ops.JumpIfFalse j) = does 1 1 0 0 (Branches j) false
row s (ops.Call n a op capture) = does a a 1 (module_of s n) Falls false
row s (ops.UnwindTo depth) = does 0 0 0 0 Falls true
row s ops.Tick = does 0 0 0 0 Falls false
row s ops.Return = does 0 0 0 0 Ends true
row s (ops.EvalAst f rewind) = does 0 0 1 0 Falls false
row s (ops.Chain h) = does (chain_takes s h) (chain_takes s h) 1 (chain_asks s h) Falls false
row s (ops.MakeArray n) = does n n 1 ARRAY Falls false
row s (ops.Switch w) = does 1 0 0 0 (Switches w) false
row s (ops.LoadNamed n) = does 0 0 1 (module_of s n) Falls false
row s (ops.AssignNamed n op) = does 1 1 0 0 Falls false
row s ops.Throw = does 1 1 0 0 Ends false
row s ops.IterInit = does 1 1 0 0 BeginsIterator false
row s (ops.IterNext exit counter) = does 0 0 0 0 (AdvancesIterator exit) false
row s ops.IterDrop = does 0 0 0 0 EndsIterator true
row s (ops.StoreShared slot) = does 1 1 0 0 Falls false
row s ops.PopHandler = does 0 0 0 0 PopsHandler true
row s (ops.PushHandler target name) = does 0 0 0 0 (PushesHandler target) false
row s ops.InterpolateStart = does 0 0 1 0 Falls false
row s ops.InterpolateAppend = does 2 1 0 0 Falls false
row s ops.InterpolateEnd = does 1 1 1 0 Falls false
row s ops.MakeFnPtr = does 1 1 1 FN_PTR Falls false
row s (ops.Curry a) = does (a + 1) (a + 1) 1 (bit_or FN_PTR CURRYING) Falls false
row s (ops.CallFnPtr a is_method capture from) = does (a + 1) (a + 1) 1 FN_PTR Falls false
row s (ops.Share slot) = does 0 0 0 SHARING Falls false
row s (ops.ShareNamed n) = does 0 0 0 SHARING Falls false
row s (ops.LoadShared slot) = does 0 0 1 0 Falls false
row s (ops.MakeClosure n) = does 0 0 1 FN_PTR Falls false
row s ops.IsShared = does 1 1 1 SHARING Falls false
row s ops.Checkpoint = does 0 0 0 0 Falls false
row s (ops.CheckSize n is_map) = does 1 1 1 0 Falls false
row s (ops.MakeMap n) = does (2 * n + 1) (2 * n + 1) 1 MAP Falls false
row s (ops.CallRef n a (receiver.Local slot) capture) = does (a - 1) (a - 1) 1 (module_of s n) Falls false
row s (ops.Rotate a) = does (a + 1) (a + 1) (a + 1) 0 Falls true
row s (ops.CallRef n a (receiver.Named m) capture) = does a a 1 (module_of s n) Falls false
row s (ops.LoadSharedNamed n) = does 0 0 1 0 Falls false
row s ops.LoadThis = does 0 0 1 THIS Falls false
row s ops.LoadThisShared = does 0 0 1 THIS Falls false
row s ops.RequireThis = does 0 0 0 THIS Falls false
row s (ops.AssignThis op) = does 1 1 0 THIS Falls false
row s (ops.CallRef n a receiver.This capture) = does a a 1 (bit_or THIS (module_of s n)) Falls false
row s (ops.SkipIfNotUnit j) = does 1 0 0 0 (Branches j) false
row s (ops.Statement depth) = does 0 0 0 0 Falls false
row s (ops.CustomSyntax y) = does 0 0 1 CUSTOM_SYNTAX Falls false
row s (ops.ExportLocal slot n) = does 0 0 0 EXPORT Falls false
row s (ops.ExportNamed n alias) = does 0 0 0 EXPORT Falls false
row s (ops.Import n) = does 1 1 0 IMPORT Falls false

abbrev pub needs : Setting → Op → ℕ
needs s op = (row s op).needs

abbrev pub takes : Setting → Op → ℕ
takes s op = (row s op).takes

abbrev pub gives : Setting → Op → ℕ
gives s op = (row s op).gives

abbrev pub caps_of : Setting → Op → ℕ
caps_of s op = (row s op).asks

-- how an operation is left, and whether it is quiet, depends on no pools and no capabilities
abbrev pub flow_of : Op → Flow
flow_of op = (row unset op).flow

abbrev pub is_quiet : Op → Bool
is_quiet op = (row unset op).quiet
