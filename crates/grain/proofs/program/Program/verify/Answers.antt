use Rattle.grain.proofs.Inputs.{accepted_finds}
use Rattle.grain.proofs.program.Program.verify.Goals as goal

pub returns-in-Ok-clause-found : goal.returns-in-Ok-clause-found
returns-in-Ok-clause-found c = accepted_finds c.args.self.now c.in-Ok.ensures.verdict.accepted
