-- Instructions one after another: one more at the end, and that there is one way to cut code up.
use Rattle.std.proofs.Common.{◌≡◌, ℕ, suc, ◌+◌, ◌<◌, ◌≤◌, List, [], ◌∷◌, ◌++◌, length, take, drop, refl, sym, ap, subst, ◌∙◌, append_assoc, arith}
use Rattle.std.specs.List.{flat_map, AllByRecursion}
use Rattle.std.proofs.lemmas.List.{append-nil, append_cancel_left, take-append-drop, length-drop, take_all}
use Rattle.std.proofs.lemmas.List.Concat.{flat_map-cons}
use Rattle.std.proofs.lemmas.Grind.{flat_map-append}
use Rattle.std.proofs.Math.Seq.{take-add}
use Rattle.grain_code.specs.declared.op.Op.{Op}
use Rattle.grain_code.specs.InstructionTable.{spelling, width_of, Instr}
use Rattle.grain_code.specs.Split.{Begins, BeginsNone, StandsAt, IsInstruction, AreInstructions, starts_from, Split, FrontEnds}
use Rattle.grain_code.proofs.Instructions.{begins_none_nil, begins_spelling}
use Rattle.grain_code.proofs.FieldBytes.{one_instruction}

pub instr_is : (bytes : List ℕ) (op : Op) → Instr bytes op → IsInstruction op
instr_is bytes op h = record { unwritten = h.unwritten; fit = h.fit; spelled = refl }

pub each_more : (ops : List Op) (op : Op) → AllByRecursion IsInstruction ops → IsInstruction op → AllByRecursion IsInstruction (ops ++ op ∷ [])
each_more [] op all here = (here, tt)
each_more (o ∷ ops) op all here = (all.0, each_more ops op all.1 here)

-- code up to an address, and the instruction that stands there
pub one_more : (code : List ℕ) (at : ℕ) (ops : List Op) (op : Op) → AreInstructions (take at code) ops → StandsAt code at op → AreInstructions (take (at + width_of op) code) (ops ++ op ∷ [])
one_more code at ops op front here =
    let n = width_of op in
    record {
      each = each_more ops op front.each (instr_is (take n (drop at code)) op here);
      whole = take-add at n code ∙ ap (λ bytes. bytes ++ take n (drop at code)) front.whole ∙ ap (λ bytes. flat_map spelling ops ++ bytes) (here.spelled ∙ sym (append-nil (spelling op)))
          ∙ sym (flat_map-append spelling ops (op ∷ []));
    }

pub begins_cons : (o : Op) (os : List Op) (rest bytes : List ℕ) → IsInstruction o → bytes ≡ flat_map spelling (o ∷ os) ++ rest → (bytes ≡ spelling o ++ (flat_map spelling os ++ rest)) × Begins bytes o
begins_cons o os rest bytes is e =
    let cut : bytes ≡ spelling o ++ (flat_map spelling os ++ rest) = e ∙ ap (λ b. b ++ rest) (flat_map-cons spelling o os) ∙ append_assoc (spelling o) (flat_map spelling os) rest in
    (cut, subst (λ (b : List ℕ). Begins b o) (sym cut) (begins_spelling o (flat_map spelling os ++ rest) is))

-- two ways to cut bytes up, each as far as it goes, are one
pub one_front : (ops ops' : List Op) (rest rest' : List ℕ) → AllByRecursion IsInstruction ops → AllByRecursion IsInstruction ops' → BeginsNone rest → BeginsNone rest'
    → flat_map spelling ops ++ rest ≡ flat_map spelling ops' ++ rest' → (ops ≡ ops') × (rest ≡ rest')
one_front [] [] rest rest' all all' none none' e = (refl, e)
one_front [] (o ∷ os) rest rest' all all' none none' e = absurd (none o (begins_cons o os rest' rest all'.0 e).1)
one_front (o ∷ os) [] rest rest' all all' none none' e = absurd (none' o (begins_cons o os rest rest' all.0 (sym e)).1)
one_front (o ∷ os) (p ∷ ps) rest rest' all all' none none' e =
    let left = (begins_cons o os rest _ all.0 refl).0 in
    let right = (begins_cons p ps rest' _ all'.0 refl).0 in
    let both : spelling o ++ (flat_map spelling os ++ rest) ≡ spelling p ++ (flat_map spelling ps ++ rest') = sym left ∙ e ∙ right in
    let here = one_instruction (spelling o) (spelling p) (flat_map spelling os ++ rest) (flat_map spelling ps ++ rest') o p all.0 all'.0 both in
    let others = append_cancel_left (spelling o) (flat_map spelling os ++ rest) (flat_map spelling ps ++ rest') (both ∙ ap (λ b. b ++ (flat_map spelling ps ++ rest')) (sym here.0)) in
    let more = one_front os ps rest rest' all.1 all'.1 none none' others in
    (cc (here.1, more.0), more.1)

pub length-starts_from : (at : ℕ) (ops : List Op) → length (starts_from at ops) ≡ length ops
length-starts_from at [] = refl
length-starts_from at (o ∷ ops) = ap suc (length-starts_from (at + width_of o) ops)

-- code splits one way
pub one_split : (code starts starts' : List ℕ) → Split code starts → Split code starts' → starts ≡ starts'
one_split code starts starts' split split' =
    let e : flat_map spelling split.0 ++ [] ≡ flat_map spelling split'.0 ++ [] = ap (λ b. b ++ []) (sym split.1.whole ∙ split'.1.whole) in
    let one = one_front split.0 split'.0 [] [] split.1.each split'.1.each begins_none_nil begins_none_nil e in
    split.2 ∙ ap (starts_from 0) one.0 ∙ sym split'.2

-- where the longest front that splits ends, the whole code splits only if that is its end
pub front_is_whole : (code : List ℕ) (at : ℕ) (starts : List ℕ) → FrontEnds code at → Split code starts → drop at code ≡ []
front_is_whole code at starts front split =
    let e : flat_map spelling front.1.0 ++ drop at code ≡ flat_map spelling split.0 ++ [] =
    ap (λ b. b ++ drop at code) (sym front.1.1.whole) ∙ take-append-drop at code ∙ split.1.whole ∙ sym (append-nil (flat_map spelling split.0)) in
    (one_front front.1.0 split.0 (drop at code) [] front.1.1.each split.1.each front.2 begins_none_nil e).1

-- no code that splits ends its longest front before its own end
pub no_front_inside : (code : List ℕ) (at : ℕ) (starts : List ℕ) → at < length code → FrontEnds code at → Split code starts → ⊥
no_front_inside code at starts inside front split = let none = front_is_whole code at starts front split in omega (arith, length-drop at code, ap length none)

-- code that is instructions up to its end
pub split_at_end : (code : List ℕ) (at : ℕ) (ops : List Op) → length code ≤ at → AreInstructions (take at code) ops → Split code (starts_from 0 ops)
split_at_end code at ops end front = (ops, subst (λ (b : List ℕ). AreInstructions b ops) (take_all at code end) front, refl)
