use Rattle.std.proofs.Common.{ap}
use Rattle.grain.specs.Program.{setting_of}
use Rattle.grain_machine.proofs.DecodedCode.{facts_of_pools}
use Rattle.grain_machine.proofs.decoded.taken_by.Goals as goal

pub returns : goal.returns
returns c =
    let pools = c.pools.ensures in
    ap (λ numbers. numbers.1) (c.of.ensures.operands (setting_of c.args.program.now) (facts_of_pools c.args.program.now c.pools.result (record {
      consts = pools.consts;
      names = pools.names;
      tokens = pools.tokens;
      assign_ops = pools.assign_ops;
      residuals = pools.residuals;
      chains = pools.chains;
      switches = pools.switches;
    })))
