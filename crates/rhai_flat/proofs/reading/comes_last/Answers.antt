use Rattle.std.proofs.Common.{◌≡◌}
use Rattle.std.specs.BTreeMap.{keys}
use Rattle.std.specs.Cmp.Lexicographic.{slice_cmp}
use Rattle.std.specs.Ordering.{nat_cmp}
use Rattle.std.specs.Prelude.{string_bytes}
use Rattle.std.specs.declared.cmp.Ordering.TheVariants.{Less}
use Rattle.rhai_flat.proofs.LastEntry.{all_below}
use Rattle.rhai_flat.proofs.reading.comes_last.Goals as goal

pub returns-in-Less : goal.returns-in-Less
returns-in-Less c =
    let above : slice_cmp nat_cmp (string_bytes c.in-Some.last.now) c.args.key.now ≡ Less = cc (c.as_str.ensures.value, c.in-Less.ensures) in
    all_below (keys c.args.object.now.entries) c.in-Some.last.now c.args.key.now (rw (← c.entries.ensures) c.in-Some.ensures.all_up_to) above
