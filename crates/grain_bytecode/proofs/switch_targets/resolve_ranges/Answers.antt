use Rattle.std.proofs.Common.{◌<◌, false, pos, length, slice_index_or, arith}
use Rattle.std.proofs.lemmas.List.{get_or_default}
use Rattle.std.proofs.lemmas.List.Edits.{map_over_more}
use Rattle.grain_pools.specs.declared.switch.SwitchRange.{SwitchRange}
use Rattle.grain_pools.specs.Dispatch.{resolved_range}
use Rattle.grain_bytecode.proofs.switch_targets.resolve_ranges.Goals as goal

pub loop-range-preserved : goal.loop-range-preserved
loop-range-preserved c =
    let i = c.loop-range.range-index in
    let ys = c.loop-range.ranges in
    let none : SwitchRange = record { from = pos 0; to = pos 0; inclusive = false; target = 0 } in
    let range = slice_index_or ys i none in
    let inside : i < length ys = omega arith in
    rw c.offset_at-range.ensures
    (map_over_more (resolved_range c.args.offsets.now) c.args.ranges.now ys i range (omega arith) c.loop-range.invariant (get_or_default ys i none range inside))
