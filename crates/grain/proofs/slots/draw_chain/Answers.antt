use Rattle.std.proofs.Common.{◌∙◌, map, ap, arith}
use Rattle.std.proofs.lemmas.List.{with_items_is}
use Rattle.grain_pools.specs.Chain.{step_shape}
use Rattle.grain.proofs.slots.draw_chain.Goals as goal

pub returns-clause-rest : goal.returns-clause-rest
returns-clause-rest c p =
    let steps = c.args.chain.now.steps in
    let items = with_items_is steps c.draw_steps.new.steps (let h = c.draw_steps.auto.steps in let k = c.deref_mut.ensures.len in omega arith) in
    let same = ap (map (step_shape p)) items ∙ c.draw_steps.ensures.rest p ∙ ap (map (step_shape p)) c.deref_mut.ensures.value in
    λ i. (c.draw_root.ensures.rest p i, same i, c.args.chain.now.tail, c.args.chain.now.operands)
