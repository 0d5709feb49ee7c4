-- What code is judged against: the capabilities of the host, and what is said of the pools that its instructions point into.
use Rattle.std.specs.Prelude.{ℕ, [], map, get_or}
use Rattle.grain_base.specs.declared.caps.Caps.{Caps}
use Rattle.grain_rules.specs.Facts.{ChainFacts, Facts, facts_of}
use Rattle.grain_rules.specs.declared.pools.Pools.{Pools}

-- the capabilities as a number
pub record Setting : Type 0 where
  pub caps : ℕ
  pub facts : Facts

-- no pools and no capabilities
abbrev pub unset : Setting
unset = record { caps = 0; facts = record { consts = 0; names = []; tokens = 0; assign_ops = 0; residuals = 0; chains = []; cases = [] } }

abbrev pub with_caps : ℕ → Facts → Setting
with_caps caps facts = record { caps = caps; facts = facts }

-- the pools with capabilities as a number
abbrev pub pools_with : ℕ → Pools → Setting
pools_with caps pools = with_caps caps (facts_of pools)

abbrev pub setting : Caps → Pools → Setting
setting caps pools = pools_with caps.0 pools

-- what the name at an index asks; past the names nothing is asked
abbrev pub module_of : Setting → ℕ → ℕ
module_of s n = get_or s.facts.names n 0

-- how many operands the chain at an index takes, and what it asks; past the chains nothing
abbrev pub chain_takes : Setting → ℕ → ℕ
chain_takes s h = get_or (map (λ (c : ChainFacts). c.takes) s.facts.chains) h 0

abbrev pub chain_asks : Setting → ℕ → ℕ
chain_asks s h = get_or (map (λ (c : ChainFacts). c.asks) s.facts.chains) h 0
