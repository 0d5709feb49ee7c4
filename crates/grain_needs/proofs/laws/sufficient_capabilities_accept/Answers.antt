use Rattle.grain_needs.proofs.LeastCapabilities.{accepted_under}
use Rattle.grain_needs.proofs.laws.sufficient_capabilities_accept.Goals as goal

pub returns : goal.returns
returns c i accepted caps enough = accepted_under i caps accepted enough
