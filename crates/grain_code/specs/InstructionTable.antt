-- The instruction table: of each operation its tag and its fields, in the order in which they are written.
use Rattle.std.specs.Prelude.{ℕ, ◌≡◌, ◌<◌, ◌^◌, ◌+◌, sum_by, Bool, true, false, List, [], ◌∷◌, Some, None}
use Rattle.std.specs.Int.{w16, w32, to_le_bytes}
use Rattle.std.specs.List.{flat_map, AllByRecursion}
use Rattle.grain_code.specs.declared.op.Op.{Op}
use Rattle.grain_code.specs.declared.op.Op.TheVariants as ops
use Rattle.grain_code.specs.declared.op.Receiver.TheVariants as receiver
use Rattle.grain_code.specs.declared.field.Field.{Field}
use Rattle.grain_code.specs.declared.field.Field.TheVariants.{Index, Slot, Count, Target}
use Rattle.grain_code.specs.declared.field.Pool.TheVariants.{Constants, Names, Operators, OpAssignments, Fragments, Chains, Switches, SyntaxSites}

-- the bytes of a field, lowest first
abbrev pub bytes_of : Field → List ℕ
bytes_of (Index pool x) = to_le_bytes w16 x
bytes_of (Slot x) = to_le_bytes w16 x
bytes_of (Count x) = x ∷ []
bytes_of (Target x) = to_le_bytes w32 x

-- how many bytes a field takes
abbrev pub size_of : Field → ℕ
size_of (Index pool x) = 2
size_of (Slot x) = 2
size_of (Count x) = 1
size_of (Target x) = 4

-- this many bytes can spell the field's value
abbrev pub FieldFits : Field → Type 0
FieldFits (Index pool x) = x < 2 ^ 16
FieldFits (Slot x) = x < 2 ^ 16
FieldFits (Count x) = x < 2 ^ 8
FieldFits (Target x) = x < 2 ^ 32

-- The tag, the fields, and the flags that aren't written, each with the value with which it is decoded.
abbrev pub encoding : Op → ℕ × List Field × List (Bool × Bool)
encoding (ops.Const c) = (0x01, Index Constants c ∷ [], [])
encoding ops.Unit = (0x02, [], [])
encoding (ops.Bool false) = (0x03, [], [])
encoding (ops.Bool true) = (0x04, [], [])
encoding (ops.LoadLocal s) = (0x05, Slot s ∷ [], [])
encoding (ops.StoreLocal s false) = (0x06, Slot s ∷ [], [])
encoding (ops.AssignLocal s n None) = (0x07, Slot s ∷ Index Names n ∷ [], [])
encoding (ops.AssignLocal s n (Some o)) = (0x08, Slot s ∷ Index Names n ∷ Index OpAssignments o ∷ [], [])
encoding (ops.DeclareLocal n false is_global) = (0x09, Index Names n ∷ [], (is_global, false) ∷ [])
encoding (ops.DeclareLocal n true false) = (0x0a, Index Names n ∷ [], [])
encoding ops.Pop = (0x0b, [], [])
encoding (ops.Jump j) = (0x0c, Target j ∷ [], [])
encoding (ops.JumpIfTrue j) = (0x0d, Target j ∷ [], [])
encoding (ops.JumpIfFalse j) = (0x0e, Target j ∷ [], [])
encoding (ops.Call n a None capture) = (0x0f, Index Names n ∷ Count a ∷ [], (capture, false) ∷ [])
encoding (ops.Call n a (Some t) capture) = (0x10, Index Names n ∷ Count a ∷ Index Operators t ∷ [], (capture, false) ∷ [])
encoding (ops.UnwindTo s) = (0x11, Slot s ∷ [], [])
encoding ops.Tick = (0x12, [], [])
encoding ops.Return = (0x13, [], [])
encoding (ops.EvalAst f true) = (0x14, Index Fragments f ∷ [], [])
encoding (ops.EvalAst f false) = (0x15, Index Fragments f ∷ [], [])
encoding (ops.Chain h) = (0x16, Index Chains h ∷ [], [])
encoding (ops.MakeArray s) = (0x17, Slot s ∷ [], [])
encoding (ops.Switch w) = (0x18, Index Switches w ∷ [], [])
encoding (ops.LoadNamed n) = (0x19, Index Names n ∷ [], [])
encoding (ops.AssignNamed n None) = (0x1a, Index Names n ∷ [], [])
encoding (ops.AssignNamed n (Some o)) = (0x1b, Index Names n ∷ Index OpAssignments o ∷ [], [])
encoding ops.Throw = (0x1c, [], [])
encoding ops.IterInit = (0x1d, [], [])
encoding (ops.IterNext j None) = (0x1e, Target j ∷ [], [])
encoding ops.IterDrop = (0x1f, [], [])
encoding (ops.StoreShared s) = (0x20, Slot s ∷ [], [])
encoding (ops.IterNext j (Some s)) = (0x21, Target j ∷ Slot s ∷ [], [])
encoding ops.PopHandler = (0x22, [], [])
encoding (ops.PushHandler j None) = (0x23, Target j ∷ [], [])
encoding (ops.PushHandler j (Some n)) = (0x24, Target j ∷ Index Names n ∷ [], [])
encoding ops.InterpolateStart = (0x25, [], [])
encoding ops.InterpolateAppend = (0x26, [], [])
encoding ops.InterpolateEnd = (0x27, [], [])
encoding ops.MakeFnPtr = (0x28, [], [])
encoding (ops.Curry a) = (0x29, Count a ∷ [], [])
encoding (ops.CallFnPtr a false false None) = (0x2a, Count a ∷ [], [])
encoding (ops.CallFnPtr a true capture None) = (0x2b, Count a ∷ [], (capture, false) ∷ [])
encoding (ops.Share s) = (0x2c, Slot s ∷ [], [])
encoding (ops.ShareNamed n) = (0x2d, Index Names n ∷ [], [])
encoding (ops.LoadShared s) = (0x2e, Slot s ∷ [], [])
encoding (ops.MakeClosure n) = (0x2f, Index Names n ∷ [], [])
encoding ops.IsShared = (0x30, [], [])
encoding ops.Checkpoint = (0x31, [], [])
encoding (ops.CheckSize s false) = (0x32, Slot s ∷ [], [])
encoding (ops.CheckSize s true) = (0x33, Slot s ∷ [], [])
encoding (ops.MakeMap s) = (0x34, Slot s ∷ [], [])
encoding (ops.CallRef n a (receiver.Local s) capture) = (0x35, Index Names n ∷ Count a ∷ Slot s ∷ [], (capture, false) ∷ [])
encoding (ops.Rotate a) = (0x36, Count a ∷ [], [])
encoding (ops.CallRef n a (receiver.Named n') capture) = (0x37, Index Names n ∷ Count a ∷ Index Names n' ∷ [], (capture, false) ∷ [])
encoding (ops.LoadSharedNamed n) = (0x38, Index Names n ∷ [], [])
encoding ops.LoadThis = (0x39, [], [])
encoding ops.LoadThisShared = (0x3a, [], [])
encoding ops.RequireThis = (0x3b, [], [])
encoding (ops.AssignThis None) = (0x3c, [], [])
encoding (ops.AssignThis (Some o)) = (0x3d, Index OpAssignments o ∷ [], [])
encoding (ops.CallRef n a receiver.This capture) = (0x3e, Index Names n ∷ Count a ∷ [], (capture, false) ∷ [])
encoding (ops.CallFnPtr a is_method capture (Some (receiver.Local s))) = (0x3f, Count a ∷ Slot s ∷ [], (is_method, true) ∷ (capture, false) ∷ [])
encoding (ops.CallFnPtr a is_method capture (Some (receiver.Named n))) = (0x40, Count a ∷ Index Names n ∷ [], (is_method, true) ∷ (capture, false) ∷ [])
encoding (ops.CallFnPtr a is_method capture (Some receiver.This)) = (0x41, Count a ∷ [], (is_method, true) ∷ (capture, false) ∷ [])
encoding (ops.SkipIfNotUnit j) = (0x42, Target j ∷ [], [])
encoding (ops.Statement s) = (0x47, Slot s ∷ [], [])
encoding (ops.StoreLocal s true) = (0x48, Slot s ∷ [], [])
encoding (ops.CallFnPtr a false true None) = (0x49, Count a ∷ [], [])
encoding (ops.CustomSyntax y) = (0x4a, Index SyntaxSites y ∷ [], [])
encoding (ops.DeclareLocal n true true) = (0x4b, Index Names n ∷ [], [])
encoding (ops.ExportLocal s n) = (0x4d, Slot s ∷ Index Names n ∷ [], [])
encoding (ops.ExportNamed n n') = (0x4e, Index Names n ∷ Index Names n' ∷ [], [])
encoding (ops.Import n) = (0x4f, Index Names n ∷ [], [])

-- the tag and the fields, which are what is written
abbrev pub form : Op → ℕ × List Field
form op = ((encoding op).0, (encoding op).1)

-- a flag that isn't written has the value with which it is decoded
abbrev pub IsDecoded : Bool × Bool → Type 0
IsDecoded flag = flag.0 ≡ flag.1

-- The operation that is decoded if this one was written with its target mapped. A few flags aren't written.
abbrev pub decoded : (ℕ → ℕ) → Op → Op
decoded g (ops.Const c) = ops.Const c
decoded g ops.Unit = ops.Unit
decoded g (ops.Bool b) = ops.Bool b
decoded g (ops.LoadLocal s) = ops.LoadLocal s
decoded g (ops.ExportLocal s n) = ops.ExportLocal s n
decoded g (ops.StoreLocal s is_const) = ops.StoreLocal s is_const
decoded g (ops.LoadNamed n) = ops.LoadNamed n
decoded g (ops.ExportNamed n n') = ops.ExportNamed n n'
decoded g (ops.AssignNamed n o) = ops.AssignNamed n o
decoded g (ops.AssignLocal s n o) = ops.AssignLocal s n o
decoded g (ops.DeclareLocal n false is_global) = ops.DeclareLocal n false false
decoded g (ops.DeclareLocal n true is_global) = ops.DeclareLocal n true is_global
decoded g ops.Pop = ops.Pop
decoded g (ops.Jump j) = ops.Jump (g j)
decoded g (ops.JumpIfTrue j) = ops.JumpIfTrue (g j)
decoded g (ops.JumpIfFalse j) = ops.JumpIfFalse (g j)
decoded g (ops.SkipIfNotUnit j) = ops.SkipIfNotUnit (g j)
decoded g (ops.Call n a t capture) = ops.Call n a t false
decoded g (ops.CallRef n a from capture) = ops.CallRef n a from false
decoded g (ops.Rotate a) = ops.Rotate a
decoded g (ops.Switch w) = ops.Switch w
decoded g (ops.Share s) = ops.Share s
decoded g (ops.ShareNamed n) = ops.ShareNamed n
decoded g (ops.LoadShared s) = ops.LoadShared s
decoded g (ops.LoadSharedNamed n) = ops.LoadSharedNamed n
decoded g (ops.MakeClosure n) = ops.MakeClosure n
decoded g ops.MakeFnPtr = ops.MakeFnPtr
decoded g ops.IsShared = ops.IsShared
decoded g (ops.Curry a) = ops.Curry a
decoded g (ops.CallFnPtr a is_method capture (Some from)) = ops.CallFnPtr a true false (Some from)
decoded g (ops.CallFnPtr a true capture None) = ops.CallFnPtr a true false None
decoded g (ops.CallFnPtr a false capture None) = ops.CallFnPtr a false capture None
decoded g (ops.Chain h) = ops.Chain h
decoded g (ops.MakeArray s) = ops.MakeArray s
decoded g (ops.MakeMap s) = ops.MakeMap s
decoded g (ops.CheckSize s is_map) = ops.CheckSize s is_map
decoded g ops.InterpolateStart = ops.InterpolateStart
decoded g ops.InterpolateAppend = ops.InterpolateAppend
decoded g ops.InterpolateEnd = ops.InterpolateEnd
decoded g (ops.UnwindTo s) = ops.UnwindTo s
decoded g ops.Tick = ops.Tick
decoded g ops.Checkpoint = ops.Checkpoint
decoded g (ops.Statement s) = ops.Statement s
decoded g ops.Throw = ops.Throw
decoded g ops.IterInit = ops.IterInit
decoded g (ops.IterNext j counter) = ops.IterNext (g j) counter
decoded g ops.IterDrop = ops.IterDrop
decoded g (ops.PushHandler j n) = ops.PushHandler (g j) n
decoded g ops.PopHandler = ops.PopHandler
decoded g (ops.StoreShared s) = ops.StoreShared s
decoded g ops.Return = ops.Return
decoded g ops.LoadThis = ops.LoadThis
decoded g ops.LoadThisShared = ops.LoadThisShared
decoded g ops.RequireThis = ops.RequireThis
decoded g (ops.AssignThis o) = ops.AssignThis o
decoded g (ops.EvalAst f rewind) = ops.EvalAst f rewind
decoded g (ops.CustomSyntax y) = ops.CustomSyntax y
decoded g (ops.Import n) = ops.Import n

-- the canonical form: the operation that is decoded if this one was written
abbrev pub canon : Op → Op
canon op = decoded (λ t. t) op

-- the tag, and behind it the fields
abbrev pub spelling : Op → List ℕ
spelling op = (form op).0 ∷ flat_map bytes_of (form op).1

-- how many bytes an operation takes once it is written
abbrev pub width_of : Op → ℕ
width_of op = sum_by size_of (form op).1 + 1

-- The bytes are this instruction.
pub record Instr (bytes : List ℕ) (op : Op) : Type 0 where
  pub unwritten : AllByRecursion IsDecoded (encoding op).2
  pub fit : AllByRecursion FieldFits (form op).1
  pub spelled : bytes ≡ spelling op
