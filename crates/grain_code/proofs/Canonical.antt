-- Canonical forms, and operations whose targets are mapped.
use Rattle.std.proofs.Common.{◌≡◌, ℕ, ◌+◌, true, false, List, Some, None, [], ◌∷◌, map, refl, sym, ap, ◌∙◌}
use Rattle.std.specs.Prelude.{sum_by, slice_index}
use Rattle.std.specs.List.{AllByRecursion}
use Rattle.std.proofs.lemmas.List.Sums.{sum_by-cons}
use Rattle.grain_code.specs.declared.op.Op.{Op}
use Rattle.grain_code.specs.declared.op.Op.TheVariants as ops
use Rattle.grain_code.specs.declared.op.Receiver.TheVariants as receiver
use Rattle.grain_code.specs.declared.field.Field.{Field}
use Rattle.grain_code.specs.declared.field.Field.TheVariants.{Target}
use Rattle.grain_code.specs.InstructionTable.{IsDecoded, decoded, encoding, size_of, form, canon, width_of}
use Rattle.grain_code.specs.Fields.{moved}
use Rattle.grain_code.specs.Assembly.{assembled}

-- what is decoded is decoded again with its target mapped twice
pub decoded_twice : (g h : ℕ → ℕ) (op : Op) → decoded g (decoded h op) ≡ decoded (λ t. g (h t)) op
decoded_twice g h (ops.CallFnPtr a is_method capture (Some from)) = refl
decoded_twice g h (ops.CallFnPtr a true capture None) = refl
decoded_twice g h (ops.CallFnPtr a false capture None) = refl
decoded_twice g h (ops.DeclareLocal n false is_global) = refl
decoded_twice g h (ops.DeclareLocal n true is_global) = refl
decoded_twice g h op = refl

pub canon_twice : (op : Op) → canon (canon op) ≡ canon op
canon_twice op = decoded_twice (λ t. t) (λ t. t) op

-- flags that aren't written have in what is decoded the values with which they are decoded
pub flags_decoded : (g : ℕ → ℕ) (op : Op) → AllByRecursion IsDecoded (encoding (decoded g op)).2
flags_decoded g (ops.Call n a None capture) = (refl, tt)
flags_decoded g (ops.Call n a (Some t) capture) = (refl, tt)
flags_decoded g (ops.CallRef n a (receiver.Local s) capture) = (refl, tt)
flags_decoded g (ops.CallRef n a (receiver.Named s) capture) = (refl, tt)
flags_decoded g (ops.CallRef n a receiver.This capture) = (refl, tt)
flags_decoded g (ops.CallFnPtr a is_method capture (Some (receiver.Local s))) = (refl, (refl, tt))
flags_decoded g (ops.CallFnPtr a is_method capture (Some (receiver.Named s))) = (refl, (refl, tt))
flags_decoded g (ops.CallFnPtr a is_method capture (Some receiver.This)) = (refl, (refl, tt))
flags_decoded g (ops.CallFnPtr a true capture None) = (refl, tt)
flags_decoded g (ops.DeclareLocal n false is_global) = (refl, tt)
flags_decoded g (ops.Bool false) = tt
flags_decoded g (ops.Bool true) = tt
flags_decoded g (ops.StoreLocal s false) = tt
flags_decoded g (ops.StoreLocal s true) = tt
flags_decoded g (ops.AssignLocal s n None) = tt
flags_decoded g (ops.AssignLocal s n (Some o)) = tt
flags_decoded g (ops.DeclareLocal n true false) = tt
flags_decoded g (ops.DeclareLocal n true true) = tt
flags_decoded g (ops.EvalAst f false) = tt
flags_decoded g (ops.EvalAst f true) = tt
flags_decoded g (ops.AssignNamed n None) = tt
flags_decoded g (ops.AssignNamed n (Some o)) = tt
flags_decoded g (ops.IterNext j None) = tt
flags_decoded g (ops.IterNext j (Some s)) = tt
flags_decoded g (ops.PushHandler j None) = tt
flags_decoded g (ops.PushHandler j (Some n)) = tt
flags_decoded g (ops.CallFnPtr a false false None) = tt
flags_decoded g (ops.CallFnPtr a false true None) = tt
flags_decoded g (ops.CheckSize s false) = tt
flags_decoded g (ops.CheckSize s true) = tt
flags_decoded g (ops.AssignThis None) = tt
flags_decoded g (ops.AssignThis (Some o)) = tt
flags_decoded g op = tt

-- and where they have, the operation is its own canonical form
pub canon_same : (op : Op) → AllByRecursion IsDecoded (encoding op).2 → canon op ≡ op
canon_same (ops.Call n a None capture) h = ap (ops.Call n a None) (sym h.0)
canon_same (ops.Call n a (Some t) capture) h = ap (ops.Call n a (Some t)) (sym h.0)
canon_same (ops.CallRef n a (receiver.Local s) capture) h = ap (ops.CallRef n a (receiver.Local s)) (sym h.0)
canon_same (ops.CallRef n a (receiver.Named s) capture) h = ap (ops.CallRef n a (receiver.Named s)) (sym h.0)
canon_same (ops.CallRef n a receiver.This capture) h = ap (ops.CallRef n a receiver.This) (sym h.0)
canon_same (ops.CallFnPtr a is_method capture (Some (receiver.Local s))) h = λ i. ops.CallFnPtr a (sym h.0 i) (sym h.1.0 i) (Some (receiver.Local s))
canon_same (ops.CallFnPtr a is_method capture (Some (receiver.Named s))) h = λ i. ops.CallFnPtr a (sym h.0 i) (sym h.1.0 i) (Some (receiver.Named s))
canon_same (ops.CallFnPtr a is_method capture (Some receiver.This)) h = λ i. ops.CallFnPtr a (sym h.0 i) (sym h.1.0 i) (Some receiver.This)
canon_same (ops.CallFnPtr a true capture None) h = λ i. ops.CallFnPtr a true (sym h.0 i) None
canon_same (ops.DeclareLocal n false is_global) h = ap (ops.DeclareLocal n false) (sym h.0)
canon_same (ops.CallFnPtr a false capture None) h = refl
canon_same (ops.DeclareLocal n true is_global) h = refl
canon_same op h = refl

-- what is decoded is written with the fields mapped
pub form_decoded : (g : ℕ → ℕ) (op : Op) → form (decoded g op) ≡ ((form op).0, map (moved g) (form op).1)
form_decoded g (ops.Bool false) = refl
form_decoded g (ops.Bool true) = refl
form_decoded g (ops.StoreLocal s false) = refl
form_decoded g (ops.AssignLocal s n None) = refl
form_decoded g (ops.AssignLocal s n (Some o)) = refl
form_decoded g (ops.DeclareLocal n false is_global) = refl
form_decoded g (ops.DeclareLocal n true false) = refl
form_decoded g (ops.Call n a None capture) = refl
form_decoded g (ops.Call n a (Some t) capture) = refl
form_decoded g (ops.EvalAst f true) = refl
form_decoded g (ops.EvalAst f false) = refl
form_decoded g (ops.AssignNamed n None) = refl
form_decoded g (ops.AssignNamed n (Some o)) = refl
form_decoded g (ops.IterNext j None) = refl
form_decoded g (ops.IterNext j (Some s)) = refl
form_decoded g (ops.PushHandler j None) = refl
form_decoded g (ops.PushHandler j (Some n)) = refl
form_decoded g (ops.CallFnPtr a false false None) = refl
form_decoded g (ops.CallFnPtr a true capture None) = refl
form_decoded g (ops.CheckSize s false) = refl
form_decoded g (ops.CheckSize s true) = refl
form_decoded g (ops.CallRef n a (receiver.Local s) capture) = refl
form_decoded g (ops.CallRef n a (receiver.Named n') capture) = refl
form_decoded g (ops.AssignThis None) = refl
form_decoded g (ops.AssignThis (Some o)) = refl
form_decoded g (ops.CallRef n a receiver.This capture) = refl
form_decoded g (ops.CallFnPtr a is_method capture (Some (receiver.Local s))) = refl
form_decoded g (ops.CallFnPtr a is_method capture (Some (receiver.Named n))) = refl
form_decoded g (ops.CallFnPtr a is_method capture (Some receiver.This)) = refl
form_decoded g (ops.StoreLocal s true) = refl
form_decoded g (ops.CallFnPtr a false true None) = refl
form_decoded g (ops.DeclareLocal n true true) = refl
form_decoded g op = refl

size_moved : (g : ℕ → ℕ) (field : Field) → size_of (moved g field) ≡ size_of field
size_moved g (Target t) = refl
size_moved g field = refl

sizes_moved : (g : ℕ → ℕ) (fs : List Field) → sum_by size_of (map (moved g) fs) ≡ sum_by size_of fs
sizes_moved g [] = refl
sizes_moved g (f ∷ fs) =
    sum_by-cons size_of (moved g f) (map (moved g) fs) ∙ ap (λ n. n + sum_by size_of (map (moved g) fs)) (size_moved g f) ∙ ap (λ n. size_of f + n) (sizes_moved g fs) ∙ sym (sum_by-cons size_of f fs)

pub width_decoded : (g : ℕ → ℕ) (op : Op) → width_of (decoded g op) ≡ width_of op
width_decoded g op = ap (λ (p : ℕ × List Field). sum_by size_of p.1 + 1) (form_decoded g op) ∙ ap (λ n. n + 1) (sizes_moved g (form op).1)

pub width_assembled : (offsets : List ℕ) (op : Op) → width_of (assembled offsets op) ≡ width_of op
width_assembled offsets op = width_decoded (slice_index offsets) op
