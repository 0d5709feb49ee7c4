-- Instructions and their widths.
use Rattle.std.proofs.Common.{◌≡◌, ℕ, zero, suc, ◌+◌, ◌-◌, ◌<◌, ◌≤◌, List, [], ◌∷◌, ◌++◌, length, take, drop, get_or, refl, sym, ap, subst, ◌∙◌, arith, add-one, drop-cons}
use Rattle.std.specs.Prelude.{sum_by}
use Rattle.std.specs.List.{flat_map}
use Rattle.std.proofs.lemmas.List.{length-append, length-take, length-drop, take_at}
use Rattle.std.proofs.lemmas.List.Sums.{sum_by-cons}
use Rattle.std.proofs.lemmas.List.Concat.{flat_map-cons}
use Rattle.grain_code.specs.declared.op.Op.{Op}
use Rattle.grain_code.specs.declared.field.Field.{Field}
use Rattle.grain_code.specs.declared.field.Field.TheVariants.{Index, Slot, Count, Target}
use Rattle.grain_code.specs.InstructionTable.{bytes_of, size_of, form, spelling, width_of, Instr}
use Rattle.grain_code.specs.Split.{Begins, BeginsNone, StandsAt, IsInstruction}

-- a field takes as many bytes as its size says
pub bytes_size : (f : Field) → length (bytes_of f) ≡ size_of f
bytes_size (Index pool x) = refl
bytes_size (Slot x) = refl
bytes_size (Count x) = refl
bytes_size (Target x) = refl

fields_size : (fs : List Field) → length (flat_map bytes_of fs) ≡ sum_by size_of fs
fields_size [] = refl
fields_size (f ∷ fs) = rw (flat_map-cons, sum_by-cons) (omega (arith, length-append (bytes_of f) (flat_map bytes_of fs), bytes_size f, fields_size fs))

pub spelling_width : (op : Op) → length (spelling op) ≡ width_of op
spelling_width op = omega (arith, fields_size (form op).1)

pub instr_width : (bytes : List ℕ) (op : Op) → Instr bytes op → length bytes ≡ width_of op
instr_width bytes op h = omega (arith, ap length h.spelled, spelling_width op)

-- an instruction doesn't take more bytes than there are
pub begins_fits : (bytes : List ℕ) (op : Op) → Begins bytes op → width_of op ≤ length bytes
begins_fits bytes op h = omega (arith, instr_width (take (width_of op) bytes) op h, length-take (width_of op) bytes)

pub begins_none_nil : BeginsNone []
begins_none_nil op h = let short = begins_fits [] op h in absurd (omega arith)

-- an instruction stands where it was written
pub begins_spelling : (op : Op) (rest : List ℕ) → IsInstruction op → Begins (spelling op ++ rest) op
begins_spelling op rest is = rw (take_at (spelling op) rest (width_of op) (spelling_width op)) is

-- the tag and the operands at an address are all the bytes of its instruction
pub tag_and_operands : (code : List ℕ) (at w : ℕ) → 0 < w → at + w ≤ length code → get_or code at 0 ∷ take (at + w - (at + 1)) (drop (at + 1) code) ≡ take w (drop at code)
tag_and_operands code at zero some fits = absurd (omega arith)
tag_and_operands code at (suc n) some fits =
    let inside : at < length code = omega arith in
    let e : at + suc n - (at + 1) ≡ n = omega arith in
    ap (λ k. get_or code at 0 ∷ take k (drop (at + 1) code)) e ∙ ap (λ k. get_or code at 0 ∷ take n (drop k code)) (add-one at) ∙ sym (ap (take (suc n)) (drop-cons code at 0 inside))

-- equal bytes are the same instruction
pub instr_along : (bytes other : List ℕ) (op : Op) → bytes ≡ other → Instr bytes op → Instr other op
instr_along bytes other op e h = subst (λ (b : List ℕ). Instr b op) e h

-- the instruction that as many bytes at an address are is the one that stands there
pub stands_there : (code : List ℕ) (at w : ℕ) (op : Op) → at + w ≤ length code → Instr (take w (drop at code)) op → StandsAt code at op × (w ≡ width_of op)
stands_there code at w op fits h =
    let wide : w ≡ width_of op = omega (arith, instr_width (take w (drop at code)) op h, length-take w (drop at code), length-drop at code) in
    (subst (λ n. Instr (take n (drop at code)) op) wide h, wide)

-- the tag and the operands at an address are the instruction that stands there
pub standing_bytes : (code : List ℕ) (at w : ℕ) (op : Op) → 0 < w → at + w ≤ length code → w ≡ width_of op → StandsAt code at op
    → Instr (get_or code at 0 ∷ take (at + w - (at + 1)) (drop (at + 1) code)) op
standing_bytes code at w op some fits e h = instr_along _ _ op (ap (λ n. take n (drop at code)) (sym e) ∙ sym (tag_and_operands code at w some fits)) h

-- the first byte of an instruction is its tag
pub standing_tag : (code : List ℕ) (at : ℕ) (op : Op) → at < length code → StandsAt code at op → get_or code at 0 ≡ (form op).0
standing_tag code at op inside h =
    let rest = drop (at + 1) code in
    let n = sum_by size_of (form op).1 in
    ap (λ k. get_or (take k (get_or code at 0 ∷ rest)) 0 0) (sym (add-one n))
    ∙ ap (λ k. get_or (take (width_of op) (get_or code at 0 ∷ drop k code)) 0 0) (add-one at)
    ∙ ap (λ (bs : List ℕ). get_or (take (width_of op) bs) 0 0) (sym (drop-cons code at 0 inside))
    ∙ ap (λ (bs : List ℕ). get_or bs 0 0) h.spelled
