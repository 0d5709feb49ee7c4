use Rattle.std.specs.List.{AllWithin}
use Rattle.grain_flat.specs.Flat.{IsChainRow}
use Rattle.grain_flat.proofs.flat.first_other_chain.Given as goal

abbrev pub invariant-loop-index : goal.invariant-loop-index
invariant-loop-index l = AllWithin IsChainRow l.rows 0 l.index
