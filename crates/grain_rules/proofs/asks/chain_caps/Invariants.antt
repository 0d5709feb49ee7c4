use Rattle.std.proofs.Common.{◌≡◌, drop, map}
use Rattle.grain_rules.specs.Capabilities.{chain_caps, joined, step_caps}
use Rattle.grain_rules.proofs.asks.chain_caps.Given as goal

-- adding what is left gives what the whole chain asks
abbrev pub invariant-loop-step : goal.invariant-loop-step
invariant-loop-step l =
    joined l.all.0 (map step_caps (drop l.step-index l.step-items)) ≡ chain_caps l.chain
