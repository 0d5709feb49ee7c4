-- The slots of local variables that instructions name.
use Rattle.std.specs.Prelude.{◌≡◌, ◌⊎◌, ℕ, ◌+◌, ◌<◌, List, get_or, map, Option, Some, None}
use Rattle.std.specs.List.{Contains}
use Rattle.grain_code.specs.Disassembly.{IsDisassembly}
use Rattle.grain_code.specs.Span.{Span, body}
use Rattle.grain_code.specs.declared.op.Op.{Op}
use Rattle.grain_code.specs.declared.op.Op.TheVariants as ops
use Rattle.grain_code.specs.declared.op.Receiver.{Receiver}
use Rattle.grain_code.specs.declared.op.Receiver.TheVariants as receiver
use Rattle.grain_pools.specs.declared.chain.Chain.{Chain}
use Rattle.grain_pools.specs.declared.chain.Root.{Root}
use Rattle.grain_pools.specs.declared.chain.Root.TheVariants as roots

-- the slot of the variable at which a chain begins
abbrev pub root_slot : Root → Option ℕ
root_slot (roots.Local slot n) = Some slot
root_slot (roots.Named n pos) = None
root_slot (roots.This pos) = None
root_slot roots.Temporary = None

-- of each chain
abbrev pub root_slots : List Chain → List (Option ℕ)
root_slots chains = map (λ (c : Chain). root_slot c.root) chains

abbrev pub receiver_slot : Receiver → Option ℕ
receiver_slot (receiver.Local slot) = Some slot
receiver_slot (receiver.Named n) = None
receiver_slot receiver.This = None

-- The slot that an instruction names, given the slot of each chain's root. The number of `UnwindTo` and of `Statement` is a depth, not
-- a slot. A declaration takes the next slot and names none.
abbrev pub named_slot : List (Option ℕ) → Op → Option ℕ
named_slot chains (ops.LoadLocal slot) = Some slot
named_slot chains (ops.StoreLocal slot is_const) = Some slot
named_slot chains (ops.AssignLocal slot n op) = Some slot
named_slot chains (ops.IterNext exit counter) = counter
named_slot chains (ops.StoreShared slot) = Some slot
named_slot chains (ops.Share slot) = Some slot
named_slot chains (ops.LoadShared slot) = Some slot
named_slot chains (ops.CallRef n a r capture) = receiver_slot r
named_slot chains (ops.CallFnPtr a is_method capture (Some r)) = receiver_slot r
named_slot chains (ops.CallFnPtr a is_method capture None) = None
named_slot chains (ops.ExportLocal slot alias) = Some slot
named_slot chains (ops.Chain h) = get_or chains h None
named_slot chains (ops.Const c) = None
named_slot chains ops.Unit = None
named_slot chains (ops.Bool b) = None
named_slot chains (ops.DeclareLocal n is_const is_global) = None
named_slot chains ops.Pop = None
named_slot chains (ops.Jump j) = None
named_slot chains (ops.JumpIfTrue j) = None
named_slot chains (ops.JumpIfFalse j) = None
named_slot chains (ops.Call n a op capture) = None
named_slot chains (ops.UnwindTo depth) = None
named_slot chains ops.Tick = None
named_slot chains ops.Return = None
named_slot chains (ops.EvalAst f rewind) = None
named_slot chains (ops.MakeArray n) = None
named_slot chains (ops.Switch w) = None
named_slot chains (ops.LoadNamed n) = None
named_slot chains (ops.AssignNamed n op) = None
named_slot chains ops.Throw = None
named_slot chains ops.IterInit = None
named_slot chains ops.IterDrop = None
named_slot chains ops.PopHandler = None
named_slot chains (ops.PushHandler target name) = None
named_slot chains ops.InterpolateStart = None
named_slot chains ops.InterpolateAppend = None
named_slot chains ops.InterpolateEnd = None
named_slot chains ops.MakeFnPtr = None
named_slot chains (ops.Curry a) = None
named_slot chains (ops.ShareNamed n) = None
named_slot chains (ops.MakeClosure n) = None
named_slot chains ops.IsShared = None
named_slot chains ops.Checkpoint = None
named_slot chains (ops.CheckSize n is_map) = None
named_slot chains (ops.MakeMap n) = None
named_slot chains (ops.Rotate a) = None
named_slot chains (ops.LoadSharedNamed n) = None
named_slot chains ops.LoadThis = None
named_slot chains ops.LoadThisShared = None
named_slot chains ops.RequireThis = None
named_slot chains (ops.AssignThis op) = None
named_slot chains (ops.SkipIfNotUnit j) = None
named_slot chains (ops.Statement depth) = None
named_slot chains (ops.CustomSyntax y) = None
named_slot chains (ops.ExportNamed n alias) = None
named_slot chains (ops.Import n) = None

-- Each slot that one of the instructions names is below the number, and it is 0, or one of them names the slot before it.
pub record IsSlotCount (chains : List (Option ℕ)) (items : List (ℕ × Op)) (n : ℕ) : Type 0 where
  pub above : (item : ℕ × Op) (slot : ℕ) → Contains items item → named_slot chains item.1 ≡ Some slot → slot < n
  pub attained : (n ≡ 0) ⊎ ((item : ℕ × Op) × (slot : ℕ) × Contains items item × (named_slot chains item.1 ≡ Some slot) × (n ≡ slot + 1))

-- the number of slots of a chunk: that of the instructions of its part of the code
abbrev pub AreSlots : List (Option ℕ) → List ℕ → Span → ℕ → Type 0
AreSlots chains code chunk n = (items : List (ℕ × Op)) × IsDisassembly chunk.entry (body chunk code) items × IsSlotCount chains items n
