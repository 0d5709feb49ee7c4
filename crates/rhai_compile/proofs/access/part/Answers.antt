use Rattle.rhai_emit.specs.Places.{step_places}
use Rattle.rhai_compile.proofs.StepParts.{part_pass}
use Rattle.rhai_compile.proofs.access.part.Goals as goal

pub returns : goal.returns
returns c = λ test h. part_pass step_places test c.args.steps.now c.args.from c.args.to c.get.result c.unwrap_or_default.result c.get.ensures.lookup c.unwrap_or_default.ensures h
