-- The table of tags tells which operations have no index.
use Rattle.std.proofs.Common.{rules, ◌≡◌, ℕ, ◌+◌, ◌-◌, ◌<◌, ◌≤◌, ◌∷◌, ◌||◌, Bool, List, true, false, nat_lt, length, take, drop, get_or, subst, sym, ap, refl, ◌∙◌, arith}
use Rattle.std.specs.List.{list_all}
use Rattle.std.proofs.lemmas.Bool.Decides.{nat_tests}
use Rattle.std.proofs.lemmas.List.{length-drop, length-take}
use Rattle.std.proofs.lemmas.List.Sums.{AllPass-from_list_all}
use Rattle.grain_code.specs.declared.op.Op.{Op}
use Rattle.grain_code.specs.declared.tag_table.TagRow.{TagRow}
use Rattle.grain_code.specs.declared.tag_table.TheConstants.{TAG_ROWS}
use Rattle.grain_code.specs.Split.{StandsAt}
use Rattle.grain_code.specs.InstructionTable.{form, width_of}
use Rattle.grain_code.proofs.Instructions.{instr_along, stands_there, standing_tag, tag_and_operands}
use Rattle.grain_code.proofs.FieldBytes.{IsBytes, bytes_dropped, bytes_taken}
use Rattle.grain_code.proofs.Rows.{tag_width}
use Rattle.grain_code.proofs.Widths.{is_instruction, row_is}
use Rattle.grain_rules.specs.Indices.{Indexed}
use Rattle.grain_rules.specs.Setting.{Setting}

-- whatever operation has the tag
without_index : (d : TagRow) (s : Setting) (op : Op) → (get_or TAG_ROWS (form op).0 d).has_index ≡ false → Indexed s op
without_index d s op e = search rules

unindexed : (tag : ℕ) (d : TagRow) (s : Setting) (op : Op) → (form op).0 ≡ tag → (get_or TAG_ROWS tag d).has_index ≡ false → Indexed s op
unindexed tag d s op is e = without_index d s op (subst (λ n. (get_or TAG_ROWS n d).has_index ≡ false) (sym is) e)

-- an instruction without an index has a width
wide : TagRow → Bool
wide r = r.has_index || nat_lt 0 r.width

all_wide : list_all wide TAG_ROWS ≡ true
unfolding wide
all_wide = refl

wide_at : (tag : ℕ) (d : TagRow) → tag < 256 → (get_or TAG_ROWS tag d).has_index ≡ false → 0 < (get_or TAG_ROWS tag d).width
unfolding wide
wide_at tag d small none = let h = AllPass-from_list_all wide TAG_ROWS all_wide tag d small in grind (arith, nat_tests, h)

-- where the code has as many bytes as the row says, an instruction without an index stands
pub stands_unindexed : (code : List ℕ) (at : ℕ) (r : TagRow) → IsBytes code → at < length code → ((d : TagRow) → r ≡ get_or TAG_ROWS (get_or code at 0) d) → r.has_index ≡ false
    → at + r.width ≤ length code → (0 < r.width) × ((op : Op) × StandsAt code at op × (r.width ≡ width_of op) × ((s : Setting) → Indexed s op))
stands_unindexed code at r bytes inside is none fit =
    let tag = get_or code at 0 in
    let w = r.width in
    let there : (get_or TAG_ROWS tag r).has_index ≡ false = ap (λ (row : TagRow). row.has_index) (sym (is r)) ∙ none in
    let some : 0 < w = subst (λ (row : TagRow). 0 < row.width) (sym (is r)) (wide_at tag r (bytes at) there) in
    let operands = take (at + w - (at + 1)) (drop (at + 1) code) in
    let long : length operands ≡ at + w - (at + 1) = (let a = length-take (at + w - (at + 1)) (drop (at + 1) code) in let b = length-drop (at + 1) code in omega (arith, a, b, fit, some)) in
    let all : IsBytes operands = bytes_taken (at + w - (at + 1)) (drop (at + 1) code) (bytes_dropped (at + 1) code bytes) in
    let (op, one) = is_instruction tag operands all (sym {b = tag_width tag} (row_is tag r (bytes at) is) ∙ (omega (arith, long, some))) in
    let (stands, wide) = stands_there code at w op fit (instr_along (tag ∷ operands) (take w (drop at code)) op (tag_and_operands code at w some fit) one) in
    (some, (op, stands, wide, λ s. unindexed tag r s op (sym (standing_tag code at op inside stands)) there))
