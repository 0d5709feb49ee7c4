use Rattle.std.proofs.Common.{◌≡◌, ◌+◌, List, take, subst, sym, arith}
use Rattle.std.proofs.lemmas.List.Sums.{sum_by_more}
use Rattle.std.proofs.lemmas.List.{take_all}
use Rattle.grain_flat.specs.PoolsFlaws.{StepsFlaw, all_steps, chain_overruns, step_left}
use Rattle.grain_flat.specs.declared.records.CChain.{CChain}
use Rattle.grain_flat.proofs.flat.steps_flaw.Goals as goal

pub returns-in_default-clause-some : goal.returns-in_default-clause-some
returns-in_default-clause-some c =
    let rows = c.args.rows.now in
    let i = c.loop-index.index in
    let so_far = c.loop-index.invariant in
    let none : CChain = record { root = 0; root_name = 0; steps = 0; tail = 0; op = 0; operands = 0; slot = 0 } in
    let more = sum_by_more (λ (r : CChain). r.steps) rows i none c.loop-index-test.true in
    let under = c.in_default.ensures in
    subst (StepsFlaw rows c.args.steps) (sym c.flaw_at.ensures) (chain_overruns {index = i} c.loop-index-test.true (omega (arith, so_far)) (omega (arith, so_far, more, under)))

pub returns-then-left-gt0-clause-some : goal.returns-then-left-gt0-clause-some
returns-then-left-gt0-clause-some c =
    let rows = c.args.rows.now in
    let so_far = c.loop-index.invariant in
    let whole : take c.loop-index.index rows ≡ rows = take_all c.loop-index.index rows c.loop-index-test.false in
    let left = c.if-left-gt0.true in
    let all : all_steps rows + c.loop-index.left ≡ c.args.steps = subst (λ (rs : List CChain). all_steps rs + c.loop-index.left ≡ c.args.steps) whole so_far in
    subst (StepsFlaw rows c.args.steps) (sym c.flaw_at-then-left-gt0.ensures) (step_left (omega arith) (omega arith))
