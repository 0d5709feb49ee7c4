use Rattle.std.proofs.Common.{◌∙◌, subst, sym}
use Rattle.std.specs.Str.Parse.{ParsesUnsigned}
use Rattle.grain_lines.proofs.FieldLaws.{u32_of-bytes, u32_of-read}
use Rattle.grain_lines.proofs.fields.u32_of.Goals as goal

pub returns-in_default : goal.returns-in_default
returns-in_default c = sym (u32_of-bytes c.args.word.now c.in_default.ensures.cases.0)

pub returns : goal.returns
returns c =
    c.ok.ensures.value ∙ u32_of-read c.args.word.now c.parse.result c.if-starts_with.ensures.value
    (subst (λ word. ParsesUnsigned 32 10 word c.parse.result) c.in-Ok.ensures.cases.0 c.parse.ensures.value.0)
