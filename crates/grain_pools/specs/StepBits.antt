-- The flags of a step as a number: each flag has a bit of its own.
use Rattle.std.specs.Prelude.{ℕ, List, [], ◌∷◌, codes}
use Rattle.bitflags.specs.Sets.{Row}
use Rattle.grain_pools.specs.declared.chain.StepFlags.{StepFlags}

abbrev pub SKIP_IF_UNIT : ℕ
SKIP_IF_UNIT = 1

-- the flags by name
abbrev pub flags_table : List Row
flags_table = (codes "SKIP_IF_UNIT", SKIP_IF_UNIT) ∷ []

-- the number whose bits are the set
abbrev pub step_set_of : StepFlags → ℕ
step_set_of flags = flags.0
