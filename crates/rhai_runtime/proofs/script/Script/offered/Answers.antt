use Rattle.rhai_runtime.proofs.script.Script.offered.Goals as goal

pub returns : goal.returns
returns g c = c.outside.ensures c.args.program.now
