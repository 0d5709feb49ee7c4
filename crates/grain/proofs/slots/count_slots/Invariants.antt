use Rattle.std.proofs.Common.{◌≡◌, length, min, take}
use Rattle.grain_bytecode.specs.ChainStream.{all_positions}
use Rattle.grain.proofs.slots.count_slots.Given as goal

abbrev pub invariant-loop-chain : goal.invariant-loop-chain
invariant-loop-chain l = l.count ≡ min (length (all_positions (take l.chain-index l.chains))) 18446744073709551615
