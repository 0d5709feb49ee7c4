-- What names and chains ask of the host, as far as it is known.
use Rattle.std.specs.Prelude.{◌≡◌, ℕ, List, Option, None, Some, get_or, map}
use Rattle.grain_base.specs.declared.caps.Caps.{Caps}
use Rattle.grain_rules.specs.Facts.{ChainFacts, Facts}
use Rattle.grain_verify.specs.declared.asked.Asked.{Asked}

-- if something is known at an index, it is what is asked there
abbrev pub AreKnown : List ℕ → List (Option Caps) → Type 0
AreKnown asks known = (i : ℕ) (caps : Caps) → get_or known i None ≡ Some caps → caps.0 ≡ get_or asks i 0

pub record Knows (facts : Facts) (a : Asked) : Type 0 where
  pub names : AreKnown facts.names a.names.items
  pub chains : AreKnown (map (λ (c : ChainFacts). c.asks) facts.chains) a.chains.items
