use Rattle.std.proofs.Common.{◌∙◌}
use Rattle.std.proofs.Math.Seq.{map-set_same}
use Rattle.grain_pools.specs.Chain.{positions, shape}
use Rattle.grain.proofs.SlotPositions.{drawn_next, later_next}
use Rattle.grain.proofs.slots.draw_chains.Goals as goal

pub loop-chain-preserved : goal.loop-chain-preserved
loop-chain-preserved c =
    let h = c.loop-chain.invariant in
    let i = c.loop-chain.chain-index in
    record {
      drawn = drawn_next positions c.args.chains.now c.loop-chain.chains i c.draw_chain.new.chain c.chain-item.result c.args.slots.now.left.now c.loop-chain.slots.left.now
          c.draw_chain.new.slots.left.now c.loop-chain-test.true c.loop-chain.auto.chains h.later h.drawn c.draw_chain.ensures.drawn;
      later = later_next c.args.chains.now c.loop-chain.chains i c.draw_chain.new.chain h.later;
      rest = λ p. map-set_same (shape p) c.loop-chain.chains i c.draw_chain.new.chain c.chain-item.result (c.draw_chain.ensures.rest p) ∙ h.rest p;
    }
