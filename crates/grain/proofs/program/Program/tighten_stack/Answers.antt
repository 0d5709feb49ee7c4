use Rattle.grain.specs.Program.{input_of}
use Rattle.grain.proofs.RefusalCauses.{located_flaw}
use Rattle.grain.proofs.program.Program.tighten_stack.Goals as goal

pub returns-in-Err-clause-flaws : goal.returns-in-Err-clause-flaws
returns-in-Err-clause-flaws c = located_flaw (input_of c.args.self.now) c.in-Err.refusal c.in-Err.ensures.located
