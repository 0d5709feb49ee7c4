use Rattle.std.proofs.Common.{arith}
use Rattle.grain_lexer.proofs.Fronts.{digits_front}
use Rattle.grain_lexer.proofs.literals.digits_in.Goals as goal

pub returns-in_ok-escaped_byte-in-len2-up : goal.returns-in_ok-escaped_byte-in-len2-up
returns-in_ok-escaped_byte-in-len2-up c = digits_front c.args.text.now _ (omega arith) c.in_ok-escaped_byte-in-len2-up.ensures
