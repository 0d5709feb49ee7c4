use Rattle.std.proofs.Common.{◌≡◌, drop, map}
use Rattle.grain_rules.specs.Capabilities.{joined}
use Rattle.grain_flat.specs.RowFacts.{root_asked, step_asked}
use Rattle.grain_flat.proofs.row_reads.chain_asks.Given as goal

-- what is left to join decides
abbrev pub invariant-loop-step : goal.invariant-loop-step
invariant-loop-step l = joined (root_asked l.row) (map step_asked l.steps) ≡ joined l.all.0 (map step_asked (drop l.step-index l.steps))
