use Rattle.rhai_emit.specs.Places.{arm_places}
use Rattle.rhai_compile.proofs.StepParts.{item_pass}
use Rattle.rhai_compile.proofs.switches.arm_at.Goals as goal

pub returns : goal.returns
returns c = item_pass arm_places c.args.arms.now c.args.index c.get.result c.get.ensures.lookup
