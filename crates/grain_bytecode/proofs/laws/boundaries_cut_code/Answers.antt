use Rattle.grain_code.proofs.Boundaries.{boundary_cuts}
use Rattle.grain_bytecode.proofs.laws.boundaries_cut_code.Goals as goal

pub returns : goal.returns
returns c = boundary_cuts
