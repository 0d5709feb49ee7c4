-- Equality of bases.
use Rattle.std.proofs.Common.{◌≡◌}
use Rattle.grain_rules.specs.Counts.{Base}

pub base_ext : (a b : Base) → a.operands ≡ b.operands → a.iterators ≡ b.iterators → a ≡ b
base_ext a b e f = λ i. record { operands = e i; iterators = f i }
