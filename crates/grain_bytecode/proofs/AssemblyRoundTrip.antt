-- What was disassembled from assembled code is assembled again.
use Rattle.std.proofs.Common.{◌≡◌, ℕ, ◌+◌, ◌<◌, ◌≤◌, true, false, List, [], ◌∷◌, ◌++◌, length, map, get_or, Some, None, refl, sym, ap, subst, ◌∙◌, arith, eqb, inl, inr}
use Rattle.std.specs.Prelude.{sum_by, slice_index}
use Rattle.std.specs.List.{flat_map, position_or_len}
use Rattle.std.proofs.lemmas.Bool.{cases_lt, false≢true, eqb-true, eq-eqb}
use Rattle.std.proofs.lemmas.List.{append-nil, length-map}
use Rattle.std.proofs.lemmas.List.Sums.{sum_by-cons, fails_before_first, passes_at_first}
use Rattle.grain_code.specs.declared.op.Op.{Op}
use Rattle.grain_code.specs.declared.op.Op.TheVariants as ops
use Rattle.grain_code.specs.declared.field.Field.{Field}
use Rattle.grain_code.specs.declared.field.Field.TheVariants.{Index, Slot, Count, Target}
use Rattle.grain_code.specs.InstructionTable.{decoded, form, spelling, width_of}
use Rattle.grain_code.specs.Disassembly.{placed_from, IsDisassembly}
use Rattle.grain_code.specs.Fields.{moved}
use Rattle.grain_code.specs.Assembly.{assembled, offsets_from, IsAssembly, IsWritable, AreWritable, EachWritable, CanAssemble, index_of, with_indices}
use Rattle.grain_code.proofs.Instructions.{begins_none_nil}
use Rattle.grain_code.proofs.Splits.{one_front}
use Rattle.grain_code.proofs.Canonical.{decoded_twice, form_decoded, width_decoded, width_assembled}
use Rattle.grain_code.proofs.OperationPlaces.{length-offsets_from}

-- the first index at which a value of the list stands
first_index : (xs : List ℕ) (t : ℕ) → t < length xs → (index_of xs (get_or xs t 0) < length xs) × (get_or xs (index_of xs (get_or xs t 0)) 0 ≡ get_or xs t 0)
first_index xs t inside =
    let a = get_or xs t 0 in
    let p = λ (x : ℕ). eqb x a in
    let found : position_or_len p xs < length xs = elim (cases_lt (position_or_len p xs) (length xs)) [
      | inl lt ↦ lt
      | inr past ↦ absurd (false≢true (sym (fails_before_first p xs t 0 (omega arith)) ∙ eq-eqb a a refl))
    ] in
    (found, eqb-true _ a (passes_at_first p xs 0 found))

-- maps that agree on the targets that can be written map an operation alike
decoded_alike : (n : ℕ) (g h : ℕ → ℕ) → ((t : ℕ) → t ≤ n → g t ≡ h t) → (op : Op) → AreWritable n (form op).1 → decoded g op ≡ decoded h op
decoded_alike n g h same (ops.Jump j) all = ap (λ t. ops.Jump t) (same j all.0)
decoded_alike n g h same (ops.JumpIfTrue j) all = ap (λ t. ops.JumpIfTrue t) (same j all.0)
decoded_alike n g h same (ops.JumpIfFalse j) all = ap (λ t. ops.JumpIfFalse t) (same j all.0)
decoded_alike n g h same (ops.SkipIfNotUnit j) all = ap (λ t. ops.SkipIfNotUnit t) (same j all.0)
decoded_alike n g h same (ops.IterNext j None) all = ap (λ t. ops.IterNext t None) (same j all.0)
decoded_alike n g h same (ops.IterNext j (Some s)) all = ap (λ t. ops.IterNext t (Some s)) (same j all.0)
decoded_alike n g h same (ops.PushHandler j None) all = ap (λ t. ops.PushHandler t None) (same j all.0)
decoded_alike n g h same (ops.PushHandler j (Some v)) all = ap (λ t. ops.PushHandler t (Some v)) (same j all.0)
decoded_alike n g h same (ops.CallFnPtr a is_method capture (Some from)) all = refl
decoded_alike n g h same (ops.CallFnPtr a true capture None) all = refl
decoded_alike n g h same (ops.CallFnPtr a false capture None) all = refl
decoded_alike n g h same (ops.DeclareLocal v false is_global) all = refl
decoded_alike n g h same (ops.DeclareLocal v true is_global) all = refl
decoded_alike n g h same op all = refl

-- an operation as it is assembled, its target mapped back
abbrev back : List ℕ → Op → Op
back offsets op = decoded (index_of offsets) (assembled offsets op)

-- ... is assembled as it was
assembled_again : (n : ℕ) (offsets : List ℕ) → length offsets ≡ n + 1 → (op : Op) → AreWritable n (form op).1 → assembled offsets (back offsets op) ≡ assembled offsets op
assembled_again n offsets long op all =
    let f = slice_index offsets in
    let g = index_of offsets in
    let there : (t : ℕ) → t ≤ n → f (g (f t)) ≡ f t = λ t h. (first_index offsets t (omega arith)).1 in
    decoded_twice f g (decoded f op) ∙ decoded_twice (λ t. f (g t)) f op ∙ decoded_alike n (λ t. f (g (f t))) f there op all

all_again : (n : ℕ) (offsets : List ℕ) → length offsets ≡ n + 1 → (all : List Op) → EachWritable n all → map (assembled offsets) (map (back offsets) all) ≡ map (assembled offsets) all
all_again n offsets long [] each = refl
all_again n offsets long (op ∷ all) each = cc (assembled_again n offsets long op each.0, all_again n offsets long all each.1)

width_back : (offsets : List ℕ) (op : Op) → width_of (back offsets op) ≡ width_of op
width_back offsets op = width_decoded (index_of offsets) (assembled offsets op) ∙ width_assembled offsets op

offsets_again : (offsets : List ℕ) (at : ℕ) (all : List Op) → offsets_from at (map (back offsets) all) ≡ offsets_from at all
offsets_again offsets at [] = refl
offsets_again offsets at (op ∷ all) = ap (λ w. at ∷ offsets_from (at + w) (map (back offsets) all)) (width_back offsets op) ∙ ap (λ xs. at ∷ xs) (offsets_again offsets (at + width_of op) all)

widths_again : (offsets : List ℕ) (all : List Op) → sum_by width_of (map (back offsets) all) ≡ sum_by width_of all
widths_again offsets [] = refl
widths_again offsets (op ∷ all) = omega (arith, sum_by-cons width_of (back offsets op) (map (back offsets) all), sum_by-cons width_of op all, width_back offsets op, widths_again offsets all)

-- the operations of a disassembly of assembled code
items_are : (all : List Op) (code offsets : List ℕ) (items : List (ℕ × Op)) → IsAssembly all code offsets → IsDisassembly 0 code items → with_indices offsets items ≡ map (back offsets) all
items_are all code offsets items is d =
    let made = map (assembled offsets) all in
    let e : flat_map spelling d.0 ++ d.1 ≡ flat_map spelling made ++ [] = sym d.4 ∙ is.written.whole ∙ sym (append-nil (flat_map spelling made)) in
    let one = one_front d.0 made d.1 [] d.3 is.written.each d.5 begins_none_nil e in
    ap (with_indices offsets) d.2 ∙ of_placed 0 d.0 ∙ ap (map (decoded (index_of offsets))) one.0 ∙ of_made all where
      of_placed : (at : ℕ) (xs : List Op) → with_indices offsets (placed_from at xs) ≡ map (decoded (index_of offsets)) xs
      of_placed at [] = refl
      of_placed at (x ∷ xs) = ap (λ ys. decoded (index_of offsets) x ∷ ys) (of_placed (at + width_of x) xs)

      of_made : (xs : List Op) → map (decoded (index_of offsets)) (map (assembled offsets) xs) ≡ map (back offsets) xs
      of_made [] = refl
      of_made (x ∷ xs) = ap (λ ys. back offsets x ∷ ys) (of_made xs)

pub same_again : (all : List Op) (code offsets : List ℕ) (items : List (ℕ × Op)) (again table : List ℕ) → CanAssemble all → IsAssembly all code offsets → IsDisassembly 0 code items
    → IsAssembly (with_indices offsets items) again table → (again ≡ code) × (table ≡ offsets)
same_again all code offsets items again table can is d is' =
    let long : length offsets ≡ length all + 1 = ap length is.placed ∙ length-offsets_from 0 all in
    let same = items_are all code offsets items is d in
    let at : table ≡ offsets = is'.placed ∙ ap (offsets_from 0) same ∙ offsets_again offsets 0 all ∙ sym is.placed in (
      is'.written.whole ∙ ap (λ xs. flat_map spelling (map (assembled xs) (with_indices offsets items))) at ∙ ap (λ xs. flat_map spelling (map (assembled offsets) xs)) same
          ∙ ap (flat_map spelling) (all_again (length all) offsets long all can.writable) ∙ sym is.written.whole,
      at,
    )

field_again : (n : ℕ) (g : ℕ → ℕ) → ((t : ℕ) → t ≤ n → g t ≤ n) → (f : Field) → IsWritable n f → IsWritable n (moved g f)
field_again n g within (Index pool x) h = h
field_again n g within (Slot x) h = h
field_again n g within (Count x) h = h
field_again n g within (Target t) h = within t h

fields_again : (n : ℕ) (g : ℕ → ℕ) → ((t : ℕ) → t ≤ n → g t ≤ n) → (fs : List Field) → AreWritable n fs → AreWritable n (map (moved g) fs)
fields_again n g within [] all = tt
fields_again n g within (f ∷ fs) all = (field_again n g within f all.0, fields_again n g within fs all.1)

each_again : (n : ℕ) (offsets : List ℕ) → length offsets ≡ n + 1 → (all : List Op) → EachWritable n all → EachWritable n (map (back offsets) all)
each_again n offsets long [] each = tt
each_again n offsets long (op ∷ all) each = (here, each_again n offsets long all each.1) where
  g : ℕ → ℕ
  g = λ t. index_of offsets (slice_index offsets t)

  within : (t : ℕ) → t ≤ n → g t ≤ n
  within t h = let first = (first_index offsets t (omega arith)).0 in omega arith

  same : form (back offsets op) ≡ form (decoded g op)
  same = ap form (decoded_twice (index_of offsets) (slice_index offsets) op)

  here : AreWritable n (form (back offsets op)).1
  here = subst (λ (p : ℕ × List Field). AreWritable n p.1) (sym (same ∙ form_decoded g op)) (fields_again n g within (form op).1 each.0)

pub can_again : (all : List Op) (code offsets : List ℕ) (items : List (ℕ × Op)) → CanAssemble all → IsAssembly all code offsets → IsDisassembly 0 code items → CanAssemble (with_indices offsets items)
can_again all code offsets items can is d =
    let long : length offsets ≡ length all + 1 = ap length is.placed ∙ length-offsets_from 0 all in
    let same = items_are all code offsets items is d in
    subst CanAssemble (sym same) (record {
      short = let e = widths_again offsets all in omega (arith, e, can.short);
      writable = subst (λ n. EachWritable n (map (back offsets) all)) (sym (length-map all (back offsets))) (each_again (length all) offsets long all can.writable);
    })
