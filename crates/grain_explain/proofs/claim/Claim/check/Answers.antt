use Rattle.grain_explain.proofs.Boundaries.{first_boundary}
use Rattle.grain_explain.proofs.claim.Claim.check.Goals as goal

pub check_from-requires-clause-here : goal.check_from-requires-clause-here
check_from-requires-clause-here g c = first_boundary c.args.self.now.code.now c.in_default.ensures.counted.0 c.in_default.ensures.counted.1
