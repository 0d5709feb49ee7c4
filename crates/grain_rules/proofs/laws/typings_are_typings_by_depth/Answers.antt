use Rattle.grain_rules.proofs.ByDepth.{typed_by_depth}
use Rattle.grain_rules.proofs.laws.typings_are_typings_by_depth.Goals as goal

pub returns : goal.returns
returns c = typed_by_depth
