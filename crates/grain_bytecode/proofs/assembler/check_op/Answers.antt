use Rattle.std.proofs.Common.{◌≡◌, ◌∙◌, ℕ, List, ap, subst}
use Rattle.std.proofs.lemmas.Result.{MatchResult-weaker}
use Rattle.grain_code.specs.declared.field.Field.{Field}
use Rattle.grain_code.specs.InstructionTable.{form}
use Rattle.grain_code.specs.Assembly.{AreWritable}
use Rattle.grain_bytecode.specs.AssemblyFlaws.{AccusesFirst, named_receiver}
use Rattle.grain_bytecode.proofs.Flaws.{behind_front}
use Rattle.grain_bytecode.proofs.assembler.check_op.Goals as goal

pub returns : goal.returns
returns c =
    let count = c.args.count in
    let at = c.args.at in
    let tag = c.layout-tag.result.0 in
    let written = form c.args.op.now in
    let first : (tag, c.as_slice.result.now) ≡ written = ap (λ (fields : List Field). (tag, fields)) c.as_slice.ensures ∙ c.layout-tag.ensures in
    let same : c.as_slice-2.result.now ≡ written.1 = c.as_slice-2.ensures ∙ ap (λ (p : ℕ × List Field). p.1) c.layout-tag.ensures in
    let passed = subst (λ (p : ℕ × List Field). AreWritable count (named_receiver p.0 p.1)) first c.in_ok-check_receiver.ensures in
    MatchResult-weaker c.check_fields.result c.check_fields.ensures (λ _ all. subst (AreWritable count) same all)
    (λ error flaw. behind_front count at (named_receiver written.0 written.1) written.1 error passed (subst (λ fields. AccusesFirst count at fields error) same flaw))
