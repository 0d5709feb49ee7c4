use Rattle.std.proofs.Common.{◌≡◌, ℕ, ◌++◌, drop}
use Rattle.grain_flat.specs.RowFacts.{part_begins}
use Rattle.grain_flat_file.proofs.begins.begins_of.Given as goal

abbrev pub invariant-loop-count : goal.invariant-loop-count
invariant-loop-count l = l.begins.items ++ part_begins (λ (n : ℕ). n) l.from (drop l.count-index l.counts) ≡ part_begins (λ (n : ℕ). n) 0 l.counts
