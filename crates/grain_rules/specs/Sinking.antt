-- What it is to sink below the base of the last handler, which quiet operations alone may.
use Rattle.std.specs.Prelude.{◌≡◌, ℕ, ◌-◌, ◌<◌, ◌≤◌, ◌⊎◌, false}
use Rattle.grain_code.specs.declared.op.Op.{Op}
use Rattle.grain_rules.specs.Counts.{Base, Counts, last_base}
use Rattle.grain_rules.specs.Effects.{iterators_needed}
use Rattle.grain_rules.specs.Rows.{is_quiet, takes}
use Rattle.grain_rules.specs.Setting.{Setting}

-- what an operation leaves as it was: all operands but those that it takes, and all iterators but the one that it needs
abbrev pub untouched : Setting → Op → Counts → Base
untouched s op c = record { operands = c.operands - takes s op; iterators = c.iterators - iterators_needed op }

-- the stacks reach up to a base
pub record ReachesUpTo (base stacks : Base) : Type 0 where
  pub operands : base.operands ≤ stacks.operands
  pub iterators : base.iterators ≤ stacks.iterators

-- They fall short of it: how many operands are needed and how many are there; or how many iterators, if the operands
-- suffice.
abbrev pub FallsShortOf : Base → Base → ℕ → ℕ → Type 0
FallsShortOf base stacks need have =
    ((need ≡ base.operands) × (have ≡ stacks.operands) × (have < need))
    ⊎ ((base.operands ≤ stacks.operands) × (need ≡ base.iterators) × (have ≡ stacks.iterators) × (have < need))

-- an operation that isn't quiet leaves what was on the stacks when the last handler was armed
abbrev pub Stays : Setting → Op → Counts → Type 0
Stays s op c = is_quiet op ≡ false → ReachesUpTo (last_base c.bases) (untouched s op c)

-- it isn't quiet, and what it leaves falls short of that: how many are needed, and how many are there
abbrev pub Sinks : Setting → Op → Counts → ℕ → ℕ → Type 0
Sinks s op c need have = (is_quiet op ≡ false) × FallsShortOf (last_base c.bases) (untouched s op c) need have
