use Rattle.std.proofs.Common.{◌∙◌, arith, length}
use Rattle.std.specs.List.{All}
use Rattle.std.proofs.lemmas.List.Elements.{All-from_all_within, AllWithin-more_set, AllWithin-upto}
use Rattle.std.proofs.Math.Seq.{map-set_same}
use Rattle.grain_pools.specs.Chain.{positions, shape}
use Rattle.grain_pools.specs.declared.chain.Chain.{Chain}
use Rattle.rhai_compile.proofs.PlacedPositions.{all_flat_map}
use Rattle.rhai_compile.specs.Positions.{IsListedPosition}
use Rattle.rhai_compile.proofs.placing.keep_in_chains.Goals as goal

pub loop-chain-preserved : goal.loop-chain-preserved
loop-chain-preserved c =
    let h = c.loop-chain.invariant in
    record {
      kept = AllWithin-more_set c.loop-chain.chains c.loop-chain.chain-index c.keep_in_chain.new.chain (omega arith) (λ x. All (IsListedPosition c.args.lines.now.lengths.items) (positions x)) h.kept c.keep_in_chain.ensures.kept;
      rest = λ p. map-set_same (shape p) c.loop-chain.chains c.loop-chain.chain-index c.keep_in_chain.new.chain c.chain-item.result (c.keep_in_chain.ensures.rest p) ∙ h.rest p;
    }

pub returns-clause-kept : goal.returns-clause-kept
returns-clause-kept c =
    let P = λ (x : Chain). All (IsListedPosition c.args.lines.now.lengths.items) (positions x) in
    all_flat_map (IsListedPosition c.args.lines.now.lengths.items) positions c.loop-chain.chains
    (All-from_all_within P c.loop-chain.chains (AllWithin-upto P c.loop-chain.chains 0 c.loop-chain.chain-index (length c.loop-chain.chains) (omega arith) c.loop-chain.invariant.kept))
