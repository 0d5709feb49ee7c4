use Rattle.grain_base.specs.Tokens.{token_parts}
use Rattle.grain_lexer.proofs.SameOperators.{same_parts}
use Rattle.grain_lexer.proofs.operators.is_same.Goals as goal

pub returns : goal.returns
returns c = same_parts (token_parts c.args.one.now) (token_parts c.args.other.now) c.number.result c.number-2.result c.eq.result c.number.ensures c.number-2.ensures c.eq.ensures
