use Rattle.rhai_emit.proofs.PlaceTests.{each_pass}
use Rattle.rhai_emit.specs.Places.{step_places}
use Rattle.rhai_compile.proofs.access.step_at.Goals as goal

pub returns : goal.returns
returns c = λ test all. each_pass step_places test c.args.steps.now c.args.index c.index-steps-index.result c.requires c.index-steps-index.is all
