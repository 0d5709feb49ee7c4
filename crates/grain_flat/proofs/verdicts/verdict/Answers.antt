use Rattle.grain_flat.proofs.Wholes.{constant_flaw}
use Rattle.grain_flat.proofs.verdicts.verdict.Goals as goal

pub returns-in-Some-clause-verdict : goal.returns-in-Some-clause-verdict
returns-in-Some-clause-verdict c = record {
  accepted = tt;
  each = tt;
  refused = constant_flaw c.args.caps c.in-Some.missing c.args.code.now c.args.chunks.now c.args.pools.now c.in-Some.ensures.some;
}
