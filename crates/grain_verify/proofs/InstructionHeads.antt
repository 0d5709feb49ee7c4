-- The head of the instruction that stands where a walk looks.
use Rattle.std.proofs.Common.{◌≡◌, ℕ, ◌<◌, List, take, slice_get, Option, None, Some, IfSome, sym, ◌∙◌, arith}
use Rattle.std.proofs.lemmas.List.{length-take, get_or-take}
use Rattle.std.proofs.lemmas.Option.{get_or_from_slice_get, slice_get_within}
use Rattle.grain_code.specs.InstructionTable.{form, width_of}
use Rattle.grain_code.specs.Split.{StandsAt}
use Rattle.grain_code.specs.declared.op.Op.{Op}
use Rattle.grain_code.specs.declared.tag_widths.Head.{Head}
use Rattle.grain_code.proofs.Instructions.{standing_tag}
use Rattle.grain_rules.specs.Layout.{IsStart}
use Rattle.grain_rules.proofs.Splits.{start_op}
use Rattle.grain_verify.specs.Walk.{HasHead}

-- an address in the front of the code that ends here
pub in_front : (code : List ℕ) (end at tag : ℕ) → slice_get (take end code) at ≡ Some tag → at < end
in_front code end at tag is =
    let k = slice_get_within (take end code) at tag is in
    let l = length-take end code in
    omega (arith, k, l)

-- the byte there is the tag of the instruction that stands there in the code
pub front_tag : (code : List ℕ) (end at tag : ℕ) (op : Op) → slice_get (take end code) at ≡ Some tag → StandsAt code at op → (form op).0 ≡ tag
front_tag code end at tag op is stands =
    let k = in_front code end at tag is in
    let byte = get_or_from_slice_get (take end code) at tag 0 is in
    let there = slice_get_within (take end code) at tag is in
    let l = length-take end code in
    sym (standing_tag code at op (omega (arith, there, l)) stands) ∙ sym (get_or-take end code at 0 k) ∙ byte

-- the head of the instruction that stands there in the code
pub head_there : (code : List ℕ) (end at : ℕ) (head : Option Head) → (at < end → IsStart code at) → IfSome head (λ h. slice_get (take end code) at ≡ Some h.tag)
    → IfSome head (λ h. (op : Op) → (form op).0 ≡ h.tag → h.width ≡ width_of op) → IfSome head (HasHead code at)
head_there code end at None place tag width = tt
head_there code end at (Some h) place tag width =
    let s = start_op code at (place (in_front code end at h.tag tag)) in
    let is = front_tag code end at h.tag s.1.0 tag s.1.1 in
    record { inside = s.0; op = s.1.0; stands = s.1.1; tag = is; width = width s.1.0 is }
