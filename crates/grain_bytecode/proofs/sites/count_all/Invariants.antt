use Rattle.std.proofs.Common.{◌≡◌, length, take}
use Rattle.grain_bytecode.specs.ChainStream.{all_positions}
use Rattle.grain_bytecode.proofs.sites.count_all.Given as goal

-- the positions of the chains so far are counted
abbrev pub invariant-loop-chain : goal.invariant-loop-chain
invariant-loop-chain l = l.count ≡ length (all_positions (take l.chain-index l.chains))
