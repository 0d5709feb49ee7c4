use Rattle.rhai_runtime.proofs.script.Script.call_outside.Goals as goal

pub returns-in-None : goal.returns-in-None
returns-in-None g c = c.call_world.ensures c.args.program.now
