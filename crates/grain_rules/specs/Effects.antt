-- What an operation finds, and the edges on which it is left.
use Rattle.std.specs.Prelude.{◌≡◌, ℕ, ◌+◌, ◌-◌, ◌≤◌, ◌⊎◌, Bool, true, List, [], length}
use Rattle.std.specs.List.{Contains}
use Rattle.grain_code.specs.declared.op.Op.{Op}
use Rattle.grain_rules.specs.Code.{Code}
use Rattle.grain_rules.specs.Counts.{Counts}
use Rattle.grain_rules.specs.Flow.{leaving}
use Rattle.grain_rules.specs.Layout.{next, switches}
use Rattle.grain_rules.specs.Rows.{flow_of, gives, needs, takes}
use Rattle.grain_rules.specs.Setting.{Setting}

-- how many iterators there have to be, and how many handlers have to be armed
abbrev pub iterators_needed : Op → ℕ
iterators_needed op = (leaving [] (flow_of op)).iterators

abbrev pub handlers_needed : Op → ℕ
handlers_needed op = (leaving [] (flow_of op)).handlers

-- there is what the operation needs
pub record Meets (s : Setting) (op : Op) (c : Counts) : Type 0 where
  pub operands : needs s op ≤ c.operands
  pub iterators : iterators_needed op ≤ c.iterators
  pub handlers : handlers_needed op ≤ length c.bases

-- if it may jump, a catch among them, with these targets of each switch
abbrev pub targets : List (List ℕ) → Op → List ℕ
targets switches op = (leaving switches (flow_of op)).targets

-- whether it may fall through to the next operation
abbrev pub falls_through : Op → Bool
falls_through op = (leaving [] (flow_of op)).falls

-- the operands that it leaves
abbrev pub operands_after : Setting → Op → ℕ → ℕ
operands_after s op operands = operands - takes s op + gives s op

-- the counts on the edges to its targets
abbrev pub after_jump : Setting → Op → Counts → Counts
after_jump s op c = (leaving [] (flow_of op)).jump (operands_after s op c.operands) c

-- the counts on the edge to the next operation
abbrev pub after_fall : Setting → Op → Counts → Counts
after_fall s op c = (leaving [] (flow_of op)).fall (operands_after s op c.operands) c

-- A written edge, from the operation at a place with the counts c to the place b with the counts d: it jumps, or it
-- falls through.
abbrev pub Jumps : Code → Op → Counts → ℕ → Counts → Type 0
Jumps code op c b d = Contains (targets (switches code.layout) op) b × (d ≡ after_jump code.setting op c)

abbrev pub FallsThrough : Code → Op → ℕ → Counts → ℕ → Counts → Type 0
FallsThrough code op at c b d = (falls_through op ≡ true) × (b ≡ next code.layout at op) × (d ≡ after_fall code.setting op c)

abbrev pub Edge : Code → Op → ℕ → Counts → ℕ → Counts → Type 0
Edge code op at c b d = Jumps code op c b d ⊎ FallsThrough code op at c b d
