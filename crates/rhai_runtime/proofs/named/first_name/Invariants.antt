use Rattle.std.proofs.Common.{◌≡◌, ◌<◌, ℕ, false}
use Rattle.grain.specs.Lookups.{is_text}
use Rattle.rhai_runtime.proofs.named.first_name.Given as goal

abbrev pub invariant-loop-index : goal.invariant-loop-index
invariant-loop-index l = (k : ℕ) → k < l.index → is_text l.program.names l.name k ≡ false
