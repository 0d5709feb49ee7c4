-- Where the offsets of assembled operations stand.
use Rattle.std.proofs.Common.{◌≡◌, ℕ, ◌+◌, ◌<◌, ◌≤◌, ◌⊎◌, inl, inr, suc, zero, List, [], ◌∷◌, ◌++◌, length, get_or, Some, sym, ap, subst, ◌∙◌, arith, add-one}
use Rattle.std.specs.Prelude.{slice_get, slice_index}
use Rattle.std.specs.List.{Contains}
use Rattle.std.proofs.Math.ListN.{get_or-append}
use Rattle.std.proofs.Math.Seq.{get_or-append_seam}
use Rattle.std.proofs.lemmas.Bool.{cases_eq, cases_lt}
use Rattle.std.proofs.lemmas.List.{length-append}
use Rattle.std.proofs.lemmas.List.Elements.{Contains-get_or}
use Rattle.std.proofs.lemmas.Option.{slice_get-get_or, slice_get_within, get_or_from_slice_get}
use Rattle.grain_code.specs.Assembly.{IsAssembly, assembled, offsets_from}
use Rattle.grain_code.specs.InstructionTable.{width_of}
use Rattle.grain_code.specs.declared.op.Op.{Op}
use Rattle.grain_code.specs.declared.op.Op.TheVariants as ops
use Rattle.grain_code.proofs.Canonical.{width_assembled}
use Rattle.grain_code.proofs.OperationPlaces.{length-offsets_from, split_there}
use Rattle.grain_rules.specs.Layout.{IsStart}
use Rattle.grain_rules.proofs.Splits.{width_pos}

pub same_or_below : (i j : ℕ) → i ≤ j → (i ≡ j) ⊎ (i < j)
same_or_below i j l = elim (cases_eq i j) [ inl e ↦ inl e | inr ne ↦ inr (elim (cases_lt i j) [ inl k ↦ k | inr g ↦ absurd (ne (omega arith)) ]) ]

-- an offset and the width of its operation make the next one
offset_more : (at : ℕ) (all : List Op) (i : ℕ) (d : Op) → i < length all → get_or (offsets_from at all) (suc i) 0 ≡ get_or (offsets_from at all) i 0 + width_of (get_or all i d)
offset_more at [] i d l = absurd (let k : i < 0 = l in omega arith)
offset_more at (op ∷ []) zero d l = omega arith
offset_more at (op ∷ (o ∷ rest)) zero d l = omega arith
offset_more at (op ∷ rest) (suc i) d l = offset_more (at + width_of op) rest i d (let k : suc i < suc (length rest) = l in omega arith)

module _ (all : List Op) (code offsets : List ℕ) (made : IsAssembly all code offsets) where
  abbrev f : ℕ → ℕ
  f = slice_index offsets

  pub op_here : (i : ℕ) → i < length all → (op : Op) × (slice_get all i ≡ Some op)
  op_here i l = (get_or all i ops.Unit, slice_get-get_or all i ops.Unit l)

  -- an offset for each operation, and one for the end
  pub offset_count : length offsets ≡ length all + 1
  offset_count = ap (λ (xs : List ℕ). length xs) made.placed ∙ length-offsets_from 0 all

  starts_count : length (split_there all code offsets made).0 ≡ length all
  starts_count =
      let s = split_there all code offsets made in
      let a : length offsets ≡ length s.0 + 1 = ap (λ (xs : List ℕ). length xs) s.2 ∙ length-append s.0 (length code ∷ []) in
      let b = offset_count in
      omega arith

  -- the last offset is the code's end
  pub offset_end : f (length all) ≡ length code
  offset_end =
      let s = split_there all code offsets made in
      ap (λ (xs : List ℕ). get_or xs (length all) 0) s.2 ∙ (ap (λ (k : ℕ). get_or (s.0 ++ length code ∷ []) k 0) (sym starts_count) ∙ get_or-append_seam s.0 (length code) [] 0)

  -- each other offset is a start
  pub start_there : (i : ℕ) → i < length all → IsStart code (f i)
  start_there i l =
      let s = split_there all code offsets made in
      let inside : i < length s.0 = let c = starts_count in omega arith in
      let same : f i ≡ get_or s.0 i 0 = ap (λ (xs : List ℕ). get_or xs i 0) s.2 ∙ get_or-append s.0 (length code ∷ []) 0 i inside in
      record { starts = s.0; split = s.1; here = subst (λ (x : ℕ). Contains s.0 x) (sym same) (Contains-get_or s.0 i 0 inside) }

  -- the offset behind an operation
  pub next_there : (i : ℕ) (op : Op) → slice_get all i ≡ Some op → f (i + 1) ≡ f i + width_of (assembled offsets op)
  next_there i op e =
      let l = slice_get_within all i op e in
      let more = offset_more 0 all i op l in
      ap (λ (k : ℕ). get_or offsets k 0) (add-one i)
      ∙ (ap (λ (xs : List ℕ). get_or xs (suc i) 0) made.placed
      ∙ (more
      ∙ (ap (λ (o : Op). get_or (offsets_from 0 all) i 0 + width_of o) (get_or_from_slice_get all i op op e)
      ∙ (ap (λ n. get_or (offsets_from 0 all) i 0 + n) (sym (width_assembled offsets op))
      ∙ ap (λ (xs : List ℕ). get_or xs i 0 + width_of (assembled offsets op)) (sym made.placed)))))

  rises : (i : ℕ) → i < length all → f i < f (suc i)
  rises i l =
      let o = op_here i l in
      let e = next_there i o.0 o.1 in
      let s : f (suc i) ≡ f (i + 1) = ap (λ (k : ℕ). get_or offsets k 0) (sym (add-one i)) in
      let p = width_pos (assembled offsets o.0) in
      omega arith

  -- the offsets ascend
  pub ascends : (i j : ℕ) → i < j → j ≤ length all → f i < f j
  ascends i zero l h = absurd (omega arith)
  ascends i (suc j) l h =
      let r = rises j (omega arith) in
      elim (same_or_below i j (omega arith)) [
        | inl e ↦ subst (λ (k : ℕ). f k < f (suc j)) (sym e) r
        | inr k ↦ let q = ascends i j k (omega arith) in omega arith
      ]

  pub rises_to : (i j : ℕ) → i ≤ j → j ≤ length all → f i ≤ f j
  rises_to i j l h = elim (same_or_below i j l) [
    | inl e ↦ let q : f i ≡ f j = ap (λ (k : ℕ). f k) e in omega arith
    | inr k ↦ let q = ascends i j k h in omega arith
  ]

  -- so their order is that of the indices
  pub before : (i j : ℕ) → i ≤ length all → f i < f j → i < j
  before i j h l = elim (cases_lt i j) [
    | inl k ↦ k
    | inr g ↦ absurd (let q = rises_to j i g h in omega arith)
  ]

  pub not_after : (i j : ℕ) → i ≤ length all → f i ≤ f j → j ≤ length all → i ≤ j
  not_after i j h l k = elim (cases_lt j i) [
    | inl g ↦ absurd (let q = ascends j i g h in omega arith)
    | inr g ↦ g
  ]

  pub apart : (i j : ℕ) → i ≤ length all → j ≤ length all → f i ≡ f j → i ≡ j
  apart i j h k e = let p = not_after i j h (omega arith) k in let q = not_after j i k (omega arith) h in omega arith
