-- What the meter of a verification counts.
use Rattle.std.specs.Prelude.{◌≡◌, ℕ, ◌+◌, ◌-◌, ◌^◌, ◌≤◌, ◌&&◌, max, min, nat_le, nat_lt, List, IfErr, IfOk, Result, Vec}
use Rattle.std.specs.List.{AllZip, count_by, sum_by}
use Rattle.std.specs.declared.alloc.Global.{Global}
use Rattle.grain_code.specs.Span.{Span}
use Rattle.grain_code.specs.Split.{Split}
use Rattle.grain_rules.specs.Accepted.{Input}
use Rattle.grain_rules.specs.Code.{Bytecode, coded}
use Rattle.grain_rules.specs.Typing.{IsReachedCount}
use Rattle.grain_rules.specs.declared.error.VerifyError.{VerifyError}

-- the meter has counted this many more, up to the greatest number that it can show
abbrev pub HasCounted : ℕ → ℕ → ℕ → Type 0
HasCounted old new n = new ≡ min (old + n) (max old (2 ^ 128 - 1))

-- how many of the starts lie in the chunk
abbrev pub starts_within : List ℕ → Span → ℕ
starts_within starts chunk = count_by (λ at. nat_le chunk.entry at && nat_lt at chunk.end) starts

-- as many as the chunks reach places, each for itself
abbrev pub AreReached : Bytecode → List Span → ℕ → Type 0
AreReached code chunks n = (numbers : List ℕ) × AllZip (IsReachedCount (coded code)) chunks numbers × (n ≡ sum_by (λ x. x) numbers)

-- no more than all chunks have starts, each for itself; none if the code isn't whole instructions
pub record IsWithinAll (i : Input) (n : ℕ) : Type 0 where
  pub starts : (starts : List ℕ) → Split i.code.bytes starts → n ≤ sum_by (starts_within starts) i.chunks
  pub nowhere : ((starts : List ℕ) → Split i.code.bytes starts → ⊥) → n ≡ 0

-- What a meter has counted of a verification: the places that the chunks reach if the program is accepted, and no more
-- than the starts of each chunk if it is refused.
pub record IsMetered (i : Input) (old new : ℕ) (result : Result (Vec ℕ Global) VerifyError) : Type 0 where
  pub accepted : IfOk result (λ _. (n : ℕ) × AreReached i.code i.chunks n × HasCounted old new n)
  pub refused : IfErr result (λ _. (n : ℕ) × IsWithinAll i n × HasCounted old new n)
