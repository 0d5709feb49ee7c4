use Rattle.std.proofs.Common.{◌≡◌, ℕ}
use Rattle.std.specs.List.{All}
use Rattle.grain_code.specs.declared.op.Op.{Op}
use Rattle.grain_rules.specs.Capabilities.{Allows}
use Rattle.grain_rules.specs.Rows.{caps_of}
use Rattle.grain_rules.specs.Setting.{Setting}
use Rattle.grain_needs.proofs.capabilities.caps_of_code.Given as goal

abbrev pub invariant-loop-op : goal.invariant-loop-op
invariant-loop-op g l = record {
  suffice : (s : Setting) → s.facts ≡ g.P.Read.facts l.pools → All (λ (item : ℕ × Op). Allows l.all.0 (caps_of s item.1)) l.yielded;
  least : (s : Setting) → s.facts ≡ g.P.Read.facts l.pools → (others : ℕ) → All (λ (item : ℕ × Op). Allows others (caps_of s item.1)) l.yielded → Allows others l.all.0;
}
