-- The instruction table read from tags to operations, and what it says of widths.
use Rattle.std.proofs.Common.{◌≡◌, ℕ, suc, ◌+◌, true, false, List, [], ◌∷◌, Option, Some, None, map, get_or, refl}
use Rattle.std.specs.Prelude.{sum_by, nat_eq, MatchOption}
use Rattle.std.specs.Map.{lookup}
use Rattle.std.specs.Option.{option_map_or}
use Rattle.std.specs.List.{range_with_len}
use Rattle.grain_code.specs.declared.op.Op.{Op}
use Rattle.grain_code.specs.declared.op.Op.TheVariants as ops
use Rattle.grain_code.specs.declared.op.Receiver.TheVariants as receiver
use Rattle.grain_code.specs.declared.field.Field.{Field}
use Rattle.grain_code.specs.declared.field.Field.TheVariants.{Index, Slot, Count, Target}
use Rattle.grain_code.specs.declared.field.Pool.{Pool}
use Rattle.grain_code.specs.declared.field.Pool.TheVariants.{Constants, Names, Operators, OpAssignments, Fragments, Chains, Switches, SyntaxSites}
use Rattle.grain_code.specs.declared.tag_table.TagRow.{TagRow}
use Rattle.grain_code.specs.declared.tag_table.TheConstants.{TAG_ROWS}
use Rattle.grain_code.specs.InstructionTable.{form, canon, size_of}

-- a field without its value
pub data Letter : Type 0 where
  index : Pool → Letter
  slot : Letter
  count : Letter
  target : Letter

abbrev pub field : Letter → ℕ → Field
field (index pool) x = Index pool x
field slot x = Slot x
field count x = Count x
field target x = Target x

abbrev pub letter_of : Field → Letter
letter_of (Index pool x) = index pool
letter_of (Slot x) = slot
letter_of (Count x) = count
letter_of (Target x) = target

abbrev pub value_of : Field → ℕ
value_of (Index pool x) = x
value_of (Slot x) = x
value_of (Count x) = x
value_of (Target x) = x

abbrev pub letter_size : Letter → ℕ
letter_size letter = size_of (field letter 0)

-- fields with these values
abbrev pub fields : List Letter → (ℕ → ℕ) → List Field
fields [] v = []
fields (letter ∷ letters) v = field letter (v 0) ∷ fields letters (λ i. v (suc i))

-- what is behind a tag, and the operation of its values
pub record Row : Type 0 where
  pub letters : List Letter
  pub op : (ℕ → ℕ) → Op

abbrev row : ℕ → List Letter → ((ℕ → ℕ) → Op) → ℕ × Row
row tag letters op = (tag, record { letters = letters; op = op })

abbrev pub rows : List (ℕ × Row)
rows =
    row 0x01 (index Constants ∷ []) (λ v. ops.Const (v 0)) ∷
    row 0x02 [] (λ v. ops.Unit) ∷
    row 0x03 [] (λ v. ops.Bool false) ∷
    row 0x04 [] (λ v. ops.Bool true) ∷
    row 0x05 (slot ∷ []) (λ v. ops.LoadLocal (v 0)) ∷
    row 0x06 (slot ∷ []) (λ v. ops.StoreLocal (v 0) false) ∷
    row 0x07 (slot ∷ index Names ∷ []) (λ v. ops.AssignLocal (v 0) (v 1) None) ∷
    row 0x08 (slot ∷ index Names ∷ index OpAssignments ∷ []) (λ v. ops.AssignLocal (v 0) (v 1) (Some (v 2))) ∷
    row 0x09 (index Names ∷ []) (λ v. ops.DeclareLocal (v 0) false false) ∷
    row 0x0a (index Names ∷ []) (λ v. ops.DeclareLocal (v 0) true false) ∷
    row 0x0b [] (λ v. ops.Pop) ∷
    row 0x0c (target ∷ []) (λ v. ops.Jump (v 0)) ∷
    row 0x0d (target ∷ []) (λ v. ops.JumpIfTrue (v 0)) ∷
    row 0x0e (target ∷ []) (λ v. ops.JumpIfFalse (v 0)) ∷
    row 0x0f (index Names ∷ count ∷ []) (λ v. ops.Call (v 0) (v 1) None false) ∷
    row 0x10 (index Names ∷ count ∷ index Operators ∷ []) (λ v. ops.Call (v 0) (v 1) (Some (v 2)) false) ∷
    row 0x11 (slot ∷ []) (λ v. ops.UnwindTo (v 0)) ∷
    row 0x12 [] (λ v. ops.Tick) ∷
    row 0x13 [] (λ v. ops.Return) ∷
    row 0x14 (index Fragments ∷ []) (λ v. ops.EvalAst (v 0) true) ∷
    row 0x15 (index Fragments ∷ []) (λ v. ops.EvalAst (v 0) false) ∷
    row 0x16 (index Chains ∷ []) (λ v. ops.Chain (v 0)) ∷
    row 0x17 (slot ∷ []) (λ v. ops.MakeArray (v 0)) ∷
    row 0x18 (index Switches ∷ []) (λ v. ops.Switch (v 0)) ∷
    row 0x19 (index Names ∷ []) (λ v. ops.LoadNamed (v 0)) ∷
    row 0x1a (index Names ∷ []) (λ v. ops.AssignNamed (v 0) None) ∷
    row 0x1b (index Names ∷ index OpAssignments ∷ []) (λ v. ops.AssignNamed (v 0) (Some (v 1))) ∷
    row 0x1c [] (λ v. ops.Throw) ∷
    row 0x1d [] (λ v. ops.IterInit) ∷
    row 0x1e (target ∷ []) (λ v. ops.IterNext (v 0) None) ∷
    row 0x1f [] (λ v. ops.IterDrop) ∷
    row 0x20 (slot ∷ []) (λ v. ops.StoreShared (v 0)) ∷
    row 0x21 (target ∷ slot ∷ []) (λ v. ops.IterNext (v 0) (Some (v 1))) ∷
    row 0x22 [] (λ v. ops.PopHandler) ∷
    row 0x23 (target ∷ []) (λ v. ops.PushHandler (v 0) None) ∷
    row 0x24 (target ∷ index Names ∷ []) (λ v. ops.PushHandler (v 0) (Some (v 1))) ∷
    row 0x25 [] (λ v. ops.InterpolateStart) ∷
    row 0x26 [] (λ v. ops.InterpolateAppend) ∷
    row 0x27 [] (λ v. ops.InterpolateEnd) ∷
    row 0x28 [] (λ v. ops.MakeFnPtr) ∷
    row 0x29 (count ∷ []) (λ v. ops.Curry (v 0)) ∷
    row 0x2a (count ∷ []) (λ v. ops.CallFnPtr (v 0) false false None) ∷
    row 0x2b (count ∷ []) (λ v. ops.CallFnPtr (v 0) true false None) ∷
    row 0x2c (slot ∷ []) (λ v. ops.Share (v 0)) ∷
    row 0x2d (index Names ∷ []) (λ v. ops.ShareNamed (v 0)) ∷
    row 0x2e (slot ∷ []) (λ v. ops.LoadShared (v 0)) ∷
    row 0x2f (index Names ∷ []) (λ v. ops.MakeClosure (v 0)) ∷
    row 0x30 [] (λ v. ops.IsShared) ∷
    row 0x31 [] (λ v. ops.Checkpoint) ∷
    row 0x32 (slot ∷ []) (λ v. ops.CheckSize (v 0) false) ∷
    row 0x33 (slot ∷ []) (λ v. ops.CheckSize (v 0) true) ∷
    row 0x34 (slot ∷ []) (λ v. ops.MakeMap (v 0)) ∷
    row 0x35 (index Names ∷ count ∷ slot ∷ []) (λ v. ops.CallRef (v 0) (v 1) (receiver.Local (v 2)) false) ∷
    row 0x36 (count ∷ []) (λ v. ops.Rotate (v 0)) ∷
    row 0x37 (index Names ∷ count ∷ index Names ∷ []) (λ v. ops.CallRef (v 0) (v 1) (receiver.Named (v 2)) false) ∷
    row 0x38 (index Names ∷ []) (λ v. ops.LoadSharedNamed (v 0)) ∷
    row 0x39 [] (λ v. ops.LoadThis) ∷
    row 0x3a [] (λ v. ops.LoadThisShared) ∷
    row 0x3b [] (λ v. ops.RequireThis) ∷
    row 0x3c [] (λ v. ops.AssignThis None) ∷
    row 0x3d (index OpAssignments ∷ []) (λ v. ops.AssignThis (Some (v 0))) ∷
    row 0x3e (index Names ∷ count ∷ []) (λ v. ops.CallRef (v 0) (v 1) receiver.This false) ∷
    row 0x3f (count ∷ slot ∷ []) (λ v. ops.CallFnPtr (v 0) true false (Some (receiver.Local (v 1)))) ∷
    row 0x40 (count ∷ index Names ∷ []) (λ v. ops.CallFnPtr (v 0) true false (Some (receiver.Named (v 1)))) ∷
    row 0x41 (count ∷ []) (λ v. ops.CallFnPtr (v 0) true false (Some receiver.This)) ∷
    row 0x42 (target ∷ []) (λ v. ops.SkipIfNotUnit (v 0)) ∷
    row 0x47 (slot ∷ []) (λ v. ops.Statement (v 0)) ∷
    row 0x48 (slot ∷ []) (λ v. ops.StoreLocal (v 0) true) ∷
    row 0x49 (count ∷ []) (λ v. ops.CallFnPtr (v 0) false true None) ∷
    row 0x4a (index SyntaxSites ∷ []) (λ v. ops.CustomSyntax (v 0)) ∷
    row 0x4b (index Names ∷ []) (λ v. ops.DeclareLocal (v 0) true true) ∷
    row 0x4d (slot ∷ index Names ∷ []) (λ v. ops.ExportLocal (v 0) (v 1)) ∷
    row 0x4e (index Names ∷ index Names ∷ []) (λ v. ops.ExportNamed (v 0) (v 1)) ∷
    row 0x4f (index Names ∷ []) (λ v. ops.Import (v 0)) ∷
    []

abbrev pub row_of : ℕ → Option Row
row_of tag = lookup (nat_eq tag) rows

-- the values of an operation's fields
abbrev pub values_of : Op → ℕ → ℕ
values_of op i = get_or (map value_of (form op).1) i 0

-- the row has the fields of the operation, and makes its canonical form of their values
abbrev pub IsRowOf : Op → Row → Type 0
IsRowOf op r = (r.letters ≡ map letter_of (form op).1) × (r.op (values_of op) ≡ canon op)

-- each operation has the row of its tag
pub again : (op : Op) → MatchOption (row_of (form op).0) ⊥ (IsRowOf op)
again (ops.Bool false) = (refl, refl)
again (ops.Bool true) = (refl, refl)
again (ops.StoreLocal s false) = (refl, refl)
again (ops.AssignLocal s n None) = (refl, refl)
again (ops.AssignLocal s n (Some o)) = (refl, refl)
again (ops.DeclareLocal n false is_global) = (refl, refl)
again (ops.DeclareLocal n true false) = (refl, refl)
again (ops.Call n a None capture) = (refl, refl)
again (ops.Call n a (Some t) capture) = (refl, refl)
again (ops.EvalAst f true) = (refl, refl)
again (ops.EvalAst f false) = (refl, refl)
again (ops.AssignNamed n None) = (refl, refl)
again (ops.AssignNamed n (Some o)) = (refl, refl)
again (ops.IterNext j None) = (refl, refl)
again (ops.IterNext j (Some s)) = (refl, refl)
again (ops.PushHandler j None) = (refl, refl)
again (ops.PushHandler j (Some n)) = (refl, refl)
again (ops.CallFnPtr a false false None) = (refl, refl)
again (ops.CallFnPtr a true capture None) = (refl, refl)
again (ops.CheckSize s false) = (refl, refl)
again (ops.CheckSize s true) = (refl, refl)
again (ops.CallRef n a (receiver.Local s) capture) = (refl, refl)
again (ops.CallRef n a (receiver.Named n') capture) = (refl, refl)
again (ops.AssignThis None) = (refl, refl)
again (ops.AssignThis (Some o)) = (refl, refl)
again (ops.CallRef n a receiver.This capture) = (refl, refl)
again (ops.CallFnPtr a is_method capture (Some (receiver.Local s))) = (refl, refl)
again (ops.CallFnPtr a is_method capture (Some (receiver.Named n))) = (refl, refl)
again (ops.CallFnPtr a is_method capture (Some receiver.This)) = (refl, refl)
again (ops.StoreLocal s true) = (refl, refl)
again (ops.CallFnPtr a false true None) = (refl, refl)
again (ops.DeclareLocal n true true) = (refl, refl)
again op = (refl, refl)

-- a row's operation is written as its tag and its fields
pub written : (v : ℕ → ℕ) → map (λ (e : ℕ × Row). form (e.1.op v)) rows ≡ map (λ e. (e.0, fields e.1.letters v)) rows
written v = refl

-- a row's operation is canonical
pub canonical : (v : ℕ → ℕ) → map (λ (e : ℕ × Row). canon (e.1.op v)) rows ≡ map (λ e. e.1.op v) rows
canonical v = refl

abbrev pub row_width : Row → ℕ
row_width r = sum_by letter_size r.letters + 1

abbrev pub tag_width : ℕ → ℕ
tag_width tag = option_map_or row_width (row_of tag) 0

-- the widths in the table of tags
pub widths : map (λ (r : TagRow). r.width) TAG_ROWS ≡ map tag_width (range_with_len 0 256)
widths = refl
