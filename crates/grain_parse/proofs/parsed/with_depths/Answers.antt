use Rattle.std.proofs.Common.{◌∙◌, ℕ, List, length, sym, ap}
use Rattle.std.proofs.lemmas.Slice.Zip.{AllZip-long}
use Rattle.grain_code.specs.Span.{Span}
use Rattle.grain_rules.specs.Code.{coded}
use Rattle.grain_rules.specs.Typing.{IsDeepest}
use Rattle.grain.specs.Program.{chunks_of, input_of}
use Rattle.grain_parse.proofs.parsed.with_depths.Goals as goal

pub stacks_of-requires : goal.stacks_of-requires
stacks_of-requires c =
    ap (λ (numbers : List ℕ). length numbers) c.deref-2.ensures.value
    ∙ AllZip-long (IsDeepest (coded (input_of c.args.program).code)) (chunks_of c.args.program) c.in-Ok.depths.items c.in-Ok.ensures.verdict.deepest
    ∙ ap (λ (chunks : List Span). length chunks) (sym (c.deref.ensures.value ∙ c.in_ok-chunks.ensures))
