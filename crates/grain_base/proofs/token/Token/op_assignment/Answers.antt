use Rattle.grain_base.proofs.OperatorRows.{found_within}
use Rattle.grain_base.proofs.token.Token.op_assignment.Goals as goal

pub numbered-requires : goal.numbered-requires
numbered-requires c = found_within _ c.number_of_assignment.result c.number_of_assignment.ensures
