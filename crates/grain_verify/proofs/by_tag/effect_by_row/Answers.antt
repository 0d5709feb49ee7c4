use Rattle.std.proofs.Common.{◌≡◌, ℕ, List, ◌∷◌, ap, refl, subst, sym, true, ◌∙◌}
use Rattle.std.proofs.lemmas.Bool.{false≢true}
use Rattle.grain_code.specs.Flows.{HasTarget, fixes}
use Rattle.grain_code.specs.InstructionTable.{Instr, form}
use Rattle.grain_code.specs.declared.field.Field.{Field}
use Rattle.grain_code.specs.declared.field.Field.TheVariants.{Target}
use Rattle.grain_code.specs.declared.flow.Flow.{Flow}
use Rattle.grain_code.specs.declared.op.Op.{Op}
use Rattle.grain_code.specs.declared.tag_table.TagRow.{TagRow}
use Rattle.grain_rules.proofs.IndexedCode.{tag_of}
use Rattle.grain_verify.specs.TagRows.{IsLeftBy, IsRowOf}
use Rattle.grain_verify.proofs.TagTable.{left_by, target_fits}
use Rattle.grain_verify.proofs.by_tag.effect_by_row.Goals as goal
use Rattle.grain_verify.proofs.by_tag.effect_by_row.Goals.{then-has_target, else-has_target}

-- the instruction is left by the flow of its row
left : (row : TagRow) (tag : ℕ) (fields : List ℕ) (f : Flow) (op : Op) → IsRowOf row tag → row.flow ≡ f → Instr (tag ∷ fields) op → IsLeftBy f op
left row tag fields f op known e is = subst (λ (g : Flow). IsLeftBy g op) e (known.tells op (tag_of tag fields op is)).left

pub first_target-target-requires : goal.first_target-target-requires
first_target-target-requires c =
    let i = c.args.instruction.now in
    let (op, is) = c.requires.known in
    target_fits c.args.flow op i.tag i.fields.now (c.if-has_target.ensures.0 refl) (left c.args.row.now i.tag i.fields.now c.args.flow op c.requires.row c.requires.flow is) is

pub returns-clause-does : goal.returns-clause-does
returns-clause-does c op is =
    let row = c.args.row.now in
    let i = c.args.instruction.now in
    let first : HasTarget c.args.flow → (t : ℕ) (others : List Field) → (form op).1 ≡ Target t ∷ others → c.if-has_target.target ≡ t = λ has t others is_first. elim c.if-has_target.branch [
      | then-has_target w ↦ w.target-is ∙ w.first_target-target.ensures i.tag op t others is is_first
      | else-has_target w ↦ absurd (false≢true (w.if-has_target.ensures.1 has))
    ] in
    let fixed = (c.requires.row.tells op (tag_of i.tag i.fields.now op is)).fixed c.requires.fixed in
    let is_fixed_so = subst (λ (f : Flow). fixes f row.is_plain ≡ true) c.requires.flow c.requires.fixed in
    record {
      operands = λ s. ap (λ n. (n, c.from-2.result, c.from-3.result)) c.from.ensures ∙ ap (λ n. (row.needs, n, c.from-3.result)) c.from-2.ensures ∙ ap (λ n. (row.needs, row.takes, n)) c.from-3.ensures ∙ fixed.operands s;
      asks = λ s. sym (fixed.caps s);
      flow_is = left_by c.args.flow row.is_plain op c.if-has_target.target is_fixed_so first (left row i.tag i.fields.now c.args.flow op c.requires.row c.requires.flow is);
    }
