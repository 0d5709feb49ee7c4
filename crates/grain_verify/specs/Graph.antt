-- Search of a graph by a worklist. A state of the graph is a place with a value.
use Rattle.std.specs.Prelude.{ℕ, suc, ◌≤◌, ◌⊎◌, Bool, List, length}
use Rattle.std.specs.List.{Contains, IsDistinct}
use Rattle.std.specs.Map.{keys_of}

-- this many edges lead from the start to a state
pub data Path {X : Type 0} (start : X) (Edge : X → X → Type 0) : ℕ → X → Type 0 where
  at_start : Path start Edge 0 start
  along : {n : ℕ} {x y : X} → Path start Edge n x → Edge x y → Path start Edge (suc n) y

-- a state is marked, or waits
abbrev pub Pending : {X : Type 0} → List X → List X → X → Type 0
Pending marked work x = Contains marked x ⊎ Contains work x

-- The search has marked these states, and these wait: the start is pending, all that is pending is reached, on no longer path
-- than there are marked states, and each edge out of a marked state leads to one that is pending, with the very value.
pub record IsSearch {P V : Type 0} (eq : P → P → Bool) (start : P × V) (Edge : P × V → P × V → Type 0) (marked work : List (P × V)) : Type 0 where
  pub once : IsDistinct eq (keys_of marked)
  pub started : Pending marked work start
  pub reached : (x : P × V) → Pending marked work x → (n : ℕ) × (n ≤ length marked) × Path start Edge n x
  pub closed : (x y : P × V) → Contains marked x → Edge x y → Pending marked work y
