use Rattle.std.proofs.Common.{◌∷◌, [], length, take}
use Rattle.std.specs.List.{flat_map}
use Rattle.grain_bytecode.specs.ChainStream.{AppendsAll, all_positions, numbers_of}
use Rattle.grain_bytecode.proofs.sites.encode.Given as goal

-- the count is written, and the slots of the chains so far
abbrev pub invariant-loop-chain : goal.invariant-loop-chain
invariant-loop-chain l = AppendsAll [] l.stream.items (length (all_positions l.chains) ∷ flat_map numbers_of (all_positions (take l.chain-index l.chains)))
