use Rattle.std.proofs.Common.{subst, sym}
use Rattle.grain_flat.specs.PoolsFlaws.{AreArmed, AreRows, PoolsFlaw, wrong_constant, wrong_chain, wrong_step, wrong_steps, wrong_arms, wrong_name}
use Rattle.grain_flat.proofs.Flatness.{pooled}
use Rattle.grain_flat.proofs.PoolsFlaws.{not_pooled}
use Rattle.grain_flat.proofs.flat.pools_flaw.Goals as goal

pub returns-in-Some-clause-pooled : goal.returns-in-Some-clause-pooled
returns-in-Some-clause-pooled c =
    let p = c.args.pools.now in
    not_pooled p c.flaw_at.result (subst (PoolsFlaw p) (sym c.flaw_at.ensures) (wrong_constant c.in-Some.ensures.some))

pub returns-in-Some-first_other_chain-clause-pooled : goal.returns-in-Some-first_other_chain-clause-pooled
returns-in-Some-first_other_chain-clause-pooled c =
    let p = c.args.pools.now in
    not_pooled p c.flaw_at-in-Some-first_other_chain.result
    (subst (PoolsFlaw p) (sym c.flaw_at-in-Some-first_other_chain.ensures) (wrong_chain c.in_default.ensures.none c.in-Some-first_other_chain.ensures.some))

pub returns-in-Some-first_other_step-clause-pooled : goal.returns-in-Some-first_other_step-clause-pooled
returns-in-Some-first_other_step-clause-pooled c =
    let p = c.args.pools.now in
    not_pooled p c.flaw_at-in-Some-first_other_step.result
    (subst (PoolsFlaw p) (sym c.flaw_at-in-Some-first_other_step.ensures)
    (wrong_step c.in_default.ensures.none c.in_default-first_other_chain.ensures.none c.in-Some-first_other_step.ensures.some))

pub returns-in-Some-steps_flaw-clause-pooled : goal.returns-in-Some-steps_flaw-clause-pooled
returns-in-Some-steps_flaw-clause-pooled c =
    let p = c.args.pools.now in
    let rows : AreRows p = record { constants = c.in_default.ensures.none; chains = c.in_default-first_other_chain.ensures.none; steps = c.in_default-first_other_step.ensures.none } in
    not_pooled p c.in-Some-steps_flaw.flaw (wrong_steps rows c.in-Some-steps_flaw.ensures.some)

pub returns-in-Some-arms_flaw-clause-pooled : goal.returns-in-Some-arms_flaw-clause-pooled
returns-in-Some-arms_flaw-clause-pooled c =
    let p = c.args.pools.now in
    let rows : AreRows p = record { constants = c.in_default.ensures.none; chains = c.in_default-first_other_chain.ensures.none; steps = c.in_default-first_other_step.ensures.none } in
    not_pooled p c.in-Some-arms_flaw.flaw (wrong_arms (record { rows = rows; steps = c.in_default-steps_flaw.ensures.none }) c.in-Some-arms_flaw.ensures.some)

pub returns-in-Some-names_flaw-clause-pooled : goal.returns-in-Some-names_flaw-clause-pooled
returns-in-Some-names_flaw-clause-pooled c =
    let p = c.args.pools.now in
    let rows : AreRows p = record { constants = c.in_default.ensures.none; chains = c.in_default-first_other_chain.ensures.none; steps = c.in_default-first_other_step.ensures.none } in
    let arms = c.in_default-arms_flaw.ensures.none in
    let armed : AreArmed p = record { stepped = record { rows = rows; steps = c.in_default-steps_flaw.ensures.none }; cases = arms.0; ranges = arms.1 } in
    not_pooled p c.flaw_at-in-Some-names_flaw.result (subst (PoolsFlaw p) (sym c.flaw_at-in-Some-names_flaw.ensures) (wrong_name armed c.in-Some-names_flaw.ensures.some))

pub returns-clause-pooled : goal.returns-clause-pooled
returns-clause-pooled c =
    let arms = c.in_default-arms_flaw.ensures.none in
    pooled c.args.pools.now (record {
      constants = c.in_default.ensures.none;
      names = c.in_default-names_flaw.ensures.none;
      chains = c.in_default-first_other_chain.ensures.none;
      steps = c.in_default-first_other_step.ensures.none;
      step_counts = c.in_default-steps_flaw.ensures.none;
      case_counts = arms.0;
      range_counts = arms.1;
    }) c.in_default-first_other_step.ensures.small
