use Rattle.grain_base.proofs.OperatorRows.{found_within}
use Rattle.grain_base.proofs.token.Token.of_syntax.Goals as goal

pub numbered-requires : goal.numbered-requires
numbered-requires c = found_within _ c.number_with_text.result c.number_with_text.ensures
