-- Counting with a meter.
use Rattle.std.proofs.Common.{◌≡◌, ℕ, ◌+◌, ◌-◌, ◌^◌, max, min, arith}
use Rattle.grain_verify.specs.Meter.{HasCounted}

stays : (a most : ℕ) → a ≡ min (a + 0) (max a most)
stays a most = omega arith

both : (a b c m n most : ℕ) → b ≡ min (a + m) (max a most) → c ≡ min (b + n) (max b most) → c ≡ min (a + (m + n)) (max a most)
both a b c m n most e f = omega arith

-- nothing was counted
pub counted_nothing : (count : ℕ) → HasCounted count count 0
counted_nothing count = stays count (2 ^ 128 - 1)

-- what was counted first and then adds up
pub counted_both : (old mid new m n : ℕ) → HasCounted old mid m → HasCounted mid new n → HasCounted old new (m + n)
counted_both old mid new m n = both old mid new m n (2 ^ 128 - 1)
