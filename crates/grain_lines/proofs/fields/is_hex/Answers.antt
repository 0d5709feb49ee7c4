use Rattle.grain_lines.proofs.FieldLaws.{is_ok-decode_of}
use Rattle.std.proofs.Common.{◌∙◌}
use Rattle.grain_lines.proofs.fields.is_hex.Goals as goal

pub returns-then-word-eq0 : goal.returns-then-word-eq0
returns-then-word-eq0 c = c.are_hex_digits.ensures ∙ is_ok-decode_of c.args.word.now c.if-word-eq0.true
