use Rattle.rhai_flat.proofs.ReadInside.{value_more}
use Rattle.rhai_flat.proofs.reading.read_limited.Goals as goal

pub values-preserved : goal.values-preserved
values-preserved c =
    value_more c.args.reader.now c.values.reader c.read_within.new.reader c.values.values.items c.push.new.self.items c.in_ok-value.value c.values.counter c.in_ok-push.ensures.items c.values.invariant c.in_ok-value.ensures
