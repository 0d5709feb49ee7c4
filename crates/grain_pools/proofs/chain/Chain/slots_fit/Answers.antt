use Rattle.std.proofs.Common.{rules, ◌≡◌, ◌<◌, ◌^◌, ◌+◌, get_or, length, ap, arith, length-append}
use Rattle.std.proofs.lemmas.List.{take_all}
use Rattle.grain_pools.specs.Chain.{positions, root_positions, step_positions, steps_positions}
use Rattle.grain_pools.proofs.Slots.{more_slots}
use Rattle.grain_pools.proofs.chain.Chain.slots_fit.Goals as goal

pub returns-in_default : goal.returns-in_default
returns-in_default c =
    let steps = c.args.self.now.steps.items in
    let i = c.loop-step.step-index in
    let item = c.step-item.result in
    let own : length (step_positions item) ≡ length (step_positions (get_or steps i item)) =
    ap (λ s. length (step_positions s)) (rw c.deref-step-items.ensures.value at c.step-item.is) in
    let more = more_slots c.args.self.now i item (omega (arith, c.deref-step-items.ensures.len)) in
    let over : length (positions c.args.self.now) < 2 ^ 32 → ⊥ = λ h. c.in_default.ensures (omega (arith, own, more)) in
    (λ h. absurd (cc), λ h. absurd (over h))

pub returns : goal.returns
returns c =
    let chain = c.args.self.now in
    let all = take_all c.loop-step.step-index chain.steps.items (omega (arith, c.deref-step-items.ensures.len)) in
    let counted : c.loop-step.slots ≡ length (root_positions chain.root) + length (steps_positions chain.steps.items) = rw all at c.loop-step.invariant.counted in
    (λ h. omega (arith, counted, length-append (root_positions chain.root) (steps_positions chain.steps.items)), λ h. search rules)
