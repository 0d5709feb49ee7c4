use Rattle.std.proofs.Common.{◌≡◌, map, take, drop}
use Rattle.grain_base.specs.declared.position.Position.{Position}
use Rattle.grain_pools.specs.Chain.{shape}
use Rattle.grain_bytecode.specs.ChainStream.{all_positions}
use Rattle.grain.specs.Slots.{IsDrawn}
use Rattle.grain.proofs.slots.draw_chains.Given as goal

abbrev pub invariant-loop-chain : goal.invariant-loop-chain
invariant-loop-chain l = record {
  drawn : IsDrawn (all_positions (take l.chain-index l.initial.chains)) (all_positions (take l.chain-index l.chains)) l.initial.slots.left.now l.slots.left.now;
  later : drop l.chain-index l.chains ≡ drop l.chain-index l.initial.chains;
  rest : (p : Position) → map (shape p) l.chains ≡ map (shape p) l.initial.chains;
}
