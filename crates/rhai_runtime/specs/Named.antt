-- Functions and names of a program that the embedding program gives by their texts.
use Rattle.std.specs.Prelude.{◌≡◌, ◌<◌, ◌^◌, ℕ, true, false, List, Some, slice_get}
use Rattle.std.specs.List.{All}
use Rattle.grain_code.specs.declared.function.Function.{Function}
use Rattle.grain.specs.Lookups.{is_named, is_text}
use Rattle.grain.specs.Program.{Program}

-- the function at the index has this name and this many parameters, and is declared for no receiver
pub record IsFunctionNamed (p : Program) (name : List ℕ) (params index : ℕ) : Type 0 where
  pub function : Function
  pub there : slice_get p.functions index ≡ Some function
  pub named : is_named p.names name params function ≡ true

-- no function of the program has this name and this many parameters, and is declared for no receiver
abbrev pub LacksFunction : Program → List ℕ → ℕ → Type 0
LacksFunction p name params = All (λ f. is_named p.names name params f ≡ false) p.functions

-- no index finds this name among those of the program; an index has 32 bits
abbrev pub LacksName : Program → List ℕ → Type 0
LacksName p name = (index : ℕ) → index < 2 ^ 32 → is_text p.names name index ≡ false
