use Rattle.std.proofs.Common.{◌≡◌, length, get_or, arith, ap}
use Rattle.std.proofs.lemmas.List.Folds.{length-flat_map-take}
use Rattle.grain_pools.specs.Chain.{positions}
use Rattle.grain_bytecode.proofs.SlotStreams.{none_so}
use Rattle.grain_bytecode.proofs.sites.count_all.Goals as goal

pub returns-in_err-count-clause-none : goal.returns-in_err-count-clause-none
returns-in_err-count-clause-none c =
    let item = c.chain-item.result in
    let own : length (positions item) ≡ length (positions (get_or c.args.chains.now c.loop-chain.chain-index item)) = ap (λ chain. length (positions chain)) c.chain-item.is in
    none_so c.from_residual.result (omega (arith, own, c.in_err-count.ensures.none, length-flat_map-take positions c.args.chains.now c.loop-chain.chain-index item (omega arith)))
