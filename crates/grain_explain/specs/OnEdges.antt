-- Counts on the edges on which an operation is left, as the code of this crate has them.
use Rattle.std.specs.Prelude.{ℕ, ◌+◌, ◌-◌, ◌≤◌, List, ◌∷◌, length}
use Rattle.grain_rules.specs.Counts.{Base, Counts}
use Rattle.grain_explain.specs.RowView.{plain_base, list_in}
use Rattle.grain_explain.specs.declared.edge.Handlers.{Handlers}
use Rattle.grain_explain.specs.declared.edge.Handlers.TheVariants.{Kept, Pushed}
use Rattle.grain_explain.specs.declared.edge.OnEdge.{OnEdge}
use Rattle.grain_explain.specs.declared.row.LinkedBase.{LinkedBase}
use Rattle.grain_rules.specs.declared.effect.Effect.{Effect}

-- the bases of the handlers that are armed on an edge
abbrev pub handlers_in : List LinkedBase → Handlers → List Base
handlers_in bases (Kept list) = list_in bases list
handlers_in bases (Pushed b) = plain_base b ∷ list_in bases b.next

-- how many bases they add
abbrev pub pushed_in : Handlers → ℕ
pushed_in (Kept list) = 0
pushed_in (Pushed b) = 1

-- the list that they name is there
abbrev pub IsListedIn : List LinkedBase → Handlers → Type 0
IsListedIn bases (Kept list) = list ≤ length bases
IsListedIn bases (Pushed b) = b.next ≤ length bases

abbrev pub counts_on : List LinkedBase → OnEdge → Counts
counts_on bases e = record { operands = e.operands; iterators = e.iterators; bases = handlers_in bases e.handlers }

-- how many operands an operation leaves of these
abbrev pub left_by : Effect → ℕ → ℕ
left_by e operands = operands - e.takes + e.gives
