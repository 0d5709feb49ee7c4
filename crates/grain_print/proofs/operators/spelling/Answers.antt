use Rattle.std.proofs.Common.{ap, slice_get, sym, Some, ◌∙◌}
use Rattle.grain_base.specs.Operators.{text_of}
use Rattle.grain_print.specs.Spellings.{spelling_at, spellings}
use Rattle.grain_print.proofs.SpelledTokens.{spelled, unary_minus, unary_plus}
use Rattle.grain_print.proofs.operators.spelling.Goals as goal

pub returns-in-Ok-eq1 : goal.returns-in-Ok-eq1
returns-in-Ok-eq1 c = sym (ap spelling_at c.in-Ok-eq1.ensures.0 ∙ ap (slice_get spellings) c.in-Ok-eq1.field-0-test ∙ unary_plus)

pub returns-in-Ok-eq3 : goal.returns-in-Ok-eq3
returns-in-Ok-eq3 c = sym (ap spelling_at c.in-Ok-eq3.ensures.0 ∙ ap (slice_get spellings) c.in-Ok-eq3.field-0-test ∙ unary_minus)

pub returns-in-Ok : goal.returns-in-Ok
returns-in-Ok c =
    let number = c.in-Ok.ensures in
    ap Some (c.syntax.ensures ∙ ap text_of number.0) ∙ sym (ap spelling_at number.0 ∙ spelled c.in-Ok.field-0 number.1 c.in-Ok.field-0-test.0.1 c.in-Ok.field-0-test.1)
