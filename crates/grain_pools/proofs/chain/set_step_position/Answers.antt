use Rattle.std.proofs.Common.{◌≡◌, ◌+◌, ◌<◌, ◌∙◌, length, map, slice_index_or, take, ap, arith}
use Rattle.std.proofs.Math.Seq.{map-set_same}
use Rattle.grain_pools.specs.Chain.{step_positions, step_shape, steps_positions}
use Rattle.grain_pools.proofs.Slots.{flat_map-set}
use Rattle.grain_pools.proofs.chain.set_step_position.Goals as goal

pub returns-then-left-slots-clause-positions : goal.returns-then-left-slots-clause-positions
returns-then-left-slots-clause-positions c =
    let i = c.loop-step.step-index in
    let steps = c.loop-step.steps in
    let old = c.step-item.result in
    let inside : i < length steps = omega arith in
    let in_step : c.loop-step.left < length (step_positions (slice_index_or steps i old)) = omega arith in
    let before : c.args.slot ≡ length (steps_positions (take i steps)) + c.loop-step.left = rw c.loop-step.invariant.unchanged c.loop-step.invariant.passed in
    rw (before, ← c.loop-step.invariant.unchanged)
    (flat_map-set step_positions steps i c.set_position.new.self old c.loop-step.left c.args.position inside in_step c.set_position.ensures.positions)

pub returns-then-left-slots-clause-rest : goal.returns-then-left-slots-clause-rest
returns-then-left-slots-clause-rest c =
    let same : step_shape c.args.position c.set_position.new.self ≡ step_shape c.args.position (slice_index_or c.loop-step.steps c.loop-step.step-index c.step-item.result) =
    c.set_position.ensures.rest in
    map-set_same (step_shape c.args.position) c.loop-step.steps c.loop-step.step-index c.set_position.new.self c.step-item.result same
    ∙ ap (λ steps. map (step_shape c.args.position) steps) c.loop-step.invariant.unchanged
