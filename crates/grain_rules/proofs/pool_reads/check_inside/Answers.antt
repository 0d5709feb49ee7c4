use Rattle.std.proofs.Common.{List, ℕ, Option, ◌++◌, ap, map, sym, ◌∙◌}
use Rattle.std.specs.List.{flat_map}
use Rattle.std.specs.Option.{option_or}
use Rattle.std.proofs.lemmas.Result.{err_from_is_err_and}
use Rattle.grain_rules.specs.Facts.{facts_of, root_mentions, step_mentions, tail_mentions}
use Rattle.grain_rules.specs.FirstOut.{alone, first_out}
use Rattle.grain_rules.specs.Indices.{test_of}
use Rattle.grain_rules.proofs.IndexTests.{mentions_append}
use Rattle.grain_rules.proofs.pool_reads.check_inside.Goals as goal

pub returns-in_err-check_front : goal.returns-in_err-check_front
returns-in_err-check_front c =
    let s = alone (facts_of c.args.pools.now) in
    let chain = c.args.chain.now in
    let front = root_mentions chain.root ++ flat_map (step_mentions chain.operands) chain.steps.items in
    let tail = tail_mentions chain.tail in
    let p = err_from_is_err_and c.from_residual.result c.from_residual.ensures.1 in
    rw (p.1, p.2) (ap (λ (o : Option (List ℕ × ℕ)). option_or o (first_out (map (test_of s) tail))) c.in_err-check_front.ensures ∙ sym (mentions_append s front tail))

pub returns : goal.returns
returns c =
    let s = alone (facts_of c.args.pools.now) in
    let chain = c.args.chain.now in
    let front = root_mentions chain.root ++ flat_map (step_mentions chain.operands) chain.steps.items in
    let tail = tail_mentions chain.tail in
    c.check_tail.ensures ∙ (ap (λ (o : Option (List ℕ × ℕ)). option_or o (first_out (map (test_of s) tail))) c.in_ok-check_front.ensures ∙ sym (mentions_append s front tail))
