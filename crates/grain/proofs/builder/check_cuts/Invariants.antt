use Rattle.std.specs.Prelude.{map}
use Rattle.std.specs.List.{AllWithin}
use Rattle.grain.specs.Build.{span_of}
use Rattle.grain_rules.specs.ByIndex.{IsCut}
use Rattle.grain.proofs.builder.check_cuts.Given as goal

-- the cuts so far are parts of the operations
abbrev pub invariant-loop-index : goal.invariant-loop-index
invariant-loop-index l = AllWithin (IsCut l.count) (map span_of l.cuts) 0 l.index
