use Rattle.grain_file.specs.ProgramFile.{kept}
use Rattle.grain_file.proofs.Whole.{accepts}
use Rattle.grain_file.proofs.writing.write.Goals as goal

pub returns-clause-accepts : goal.returns-clause-accepts
returns-clause-accepts c bounds bytes file = accepts c.write_whole.result (kept c.args.program.now) bounds bytes c.write_whole.ensures.decides file
