use Rattle.std.specs.List.{AllWithin}
use Rattle.grain_flat.specs.Flat.{IsAskedRow}
use Rattle.grain_flat.proofs.flat.first_other_constant.Given as goal

abbrev pub invariant-loop-index : goal.invariant-loop-index
invariant-loop-index l = AllWithin IsAskedRow l.rows 0 l.index
