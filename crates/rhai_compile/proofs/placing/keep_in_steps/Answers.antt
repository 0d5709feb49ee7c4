use Rattle.std.proofs.Common.{◌∙◌, arith, length}
use Rattle.std.specs.List.{All}
use Rattle.std.proofs.lemmas.List.Elements.{All-from_all_within, AllWithin-more_set, AllWithin-upto}
use Rattle.std.proofs.Math.Seq.{map-set_same}
use Rattle.grain_pools.specs.Chain.{step_positions, step_shape}
use Rattle.grain_pools.specs.declared.chain.Step.{Step}
use Rattle.rhai_compile.specs.Positions.{IsListedPosition}
use Rattle.rhai_compile.proofs.placing.keep_in_steps.Goals as goal

pub loop-step-preserved : goal.loop-step-preserved
loop-step-preserved c =
    let h = c.loop-step.invariant in
    record {
      kept = AllWithin-more_set c.loop-step.steps c.loop-step.step-index c.keep_in_step.new.step (omega arith) (λ s. All (IsListedPosition c.args.lines.now.lengths.items) (step_positions s)) h.kept c.keep_in_step.ensures.kept;
      rest = λ p. map-set_same (step_shape p) c.loop-step.steps c.loop-step.step-index c.keep_in_step.new.step c.step-item.result (c.keep_in_step.ensures.rest p) ∙ h.rest p;
    }

pub returns-clause-kept : goal.returns-clause-kept
returns-clause-kept c =
    let P = λ (s : Step). All (IsListedPosition c.args.lines.now.lengths.items) (step_positions s) in
    All-from_all_within P c.loop-step.steps (AllWithin-upto P c.loop-step.steps 0 c.loop-step.step-index (length c.loop-step.steps) (omega arith) c.loop-step.invariant.kept)
