use Rattle.grain.proofs.VerifiedPrograms.{verified}
use Rattle.grain.proofs.program.Program.into_verified.Goals as goal

pub invariant_of-result : goal.invariant_of-result
invariant_of-result c = let v = c.in-Ok.ensures.verdict in verified c.args.self c.in-Ok.depths.items v.accepted v.typed v.deepest

pub returns-in-Ok-clause-verified : goal.returns-in-Ok-clause-verified
returns-in-Ok-clause-verified c = let v = c.in-Ok.ensures.verdict in verified c.args.self c.in-Ok.depths.items v.accepted v.typed v.deepest
