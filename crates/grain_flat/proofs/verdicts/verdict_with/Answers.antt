use Rattle.std.proofs.Common.{subst}
use Rattle.grain_flat.specs.Judging.{IsMeteredOf, IsVerdictOf}
use Rattle.grain_flat.specs.declared.records.CPools.{CPools}
use Rattle.grain_flat.proofs.FlatVerdicts.{over, rows_metered, rows_verdict}
use Rattle.grain_flat.proofs.verdicts.verdict_with.Goals as goal

pub returns-clause-verdict : goal.returns-clause-verdict
returns-clause-verdict c =
    let at = λ (q : CPools). IsVerdictOf (over c.args.caps.0 c.args.code.now c.args.chunks.now q c.as_many.result.now) c.verdict-judged.result in
    rows_verdict c.args.caps.0 c.args.code.now c.args.chunks.now c.args.pools.now c.as_many.result.now c.requires.flat c.new-rows.ensures.small c.as_many.ensures c.requires.constants c.verdict-judged.result
    (subst at c.new-rows.ensures.same c.verdict-judged.ensures.verdict)

pub returns-clause-metered : goal.returns-clause-metered
returns-clause-metered c =
    let at = λ (q : CPools). IsMeteredOf (over c.args.caps.0 c.args.code.now c.args.chunks.now q c.as_many.result.now) c.args.meter.now c.verdict-judged.new.meter c.verdict-judged.result in
    rows_metered c.args.caps.0 c.args.code.now c.args.chunks.now c.args.pools.now c.as_many.result.now c.requires.flat c.new-rows.ensures.small c.as_many.ensures c.args.meter.now c.verdict-judged.new.meter c.verdict-judged.result
    (subst at c.new-rows.ensures.same c.verdict-judged.ensures.metered)
