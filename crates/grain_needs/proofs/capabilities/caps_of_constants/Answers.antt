use Rattle.std.proofs.Common.{arith, subst, sym}
use Rattle.grain_rules.specs.Accepted.{ConstantPasses}
use Rattle.grain_needs.proofs.Accumulated.{constant_here, constants_before, constants_more}
use Rattle.grain_needs.proofs.capabilities.caps_of_constants.Goals as goal

pub loop-value-preserved : goal.loop-value-preserved
loop-value-preserved c =
    let consts = c.args.consts.now in
    let i = c.loop-value.value-index in
    let value = c.value-item.result in
    let joined = c.joined-all.ensures in
    record {
      suffice = constants_more consts i value (omega arith) c.loop-value.all.0 c.joined-all.result.0 joined.kept c.loop-value.invariant.suffice (subst (ConstantPasses c.joined-all.result.0) c.value-item.is joined.suffice);
      least = λ others all.
          joined.least others (c.loop-value.invariant.least others (constants_before consts i value (omega arith) others all)) (subst (ConstantPasses others) (sym c.value-item.is) (constant_here consts i value (omega arith) others all));
    }
