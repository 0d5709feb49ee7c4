use Rattle.std.proofs.Common.{◌∙◌, List, ◌++◌, map, ap, arith, subst, sym}
use Rattle.std.specs.List.{All, flat_map}
use Rattle.std.proofs.lemmas.List.{with_items_is}
use Rattle.std.proofs.lemmas.List.Elements.{All-append}
use Rattle.grain_base.specs.declared.position.Position.{Position}
use Rattle.grain_pools.specs.Chain.{root_positions, step_positions, step_shape}
use Rattle.grain_pools.specs.declared.chain.Step.{Step}
use Rattle.rhai_compile.proofs.PlacedPositions.{all_flat_map}
use Rattle.rhai_compile.specs.Positions.{IsListedPosition}
use Rattle.rhai_compile.proofs.placing.keep_in_chain.Goals as goal

pub returns-clause-kept : goal.returns-clause-kept
returns-clause-kept c =
    let steps = c.args.chain.now.steps in
    let items = with_items_is steps c.keep_in_steps.new.steps (let h = c.keep_in_steps.auto.steps in let k = c.deref_mut.ensures.len in omega arith) in
    let P : Position → Type 0 = IsListedPosition c.args.lines.now.lengths.items in
    subst (λ (xs : List Step). All P (root_positions c.keep_in_root.new.root ++ flat_map step_positions xs)) (sym items)
    (All-append P (root_positions c.keep_in_root.new.root) (flat_map step_positions c.keep_in_steps.new.steps) c.keep_in_root.ensures.kept (all_flat_map P step_positions c.keep_in_steps.new.steps c.keep_in_steps.ensures.kept))

pub returns-clause-rest : goal.returns-clause-rest
returns-clause-rest c p =
    let steps = c.args.chain.now.steps in
    let items = with_items_is steps c.keep_in_steps.new.steps (let h = c.keep_in_steps.auto.steps in let k = c.deref_mut.ensures.len in omega arith) in
    let same = ap (map (step_shape p)) items ∙ c.keep_in_steps.ensures.rest p ∙ ap (map (step_shape p)) c.deref_mut.ensures.value in
    λ i. (c.keep_in_root.ensures.rest p i, same i, c.args.chain.now.tail, c.args.chain.now.operands)
