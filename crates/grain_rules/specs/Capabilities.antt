-- The capabilities that an operation requires of the host.
use Rattle.std.specs.Prelude.{ℕ, ◌≡◌, List, [], ◌∷◌, map, Option, Some, None}
use Rattle.std.specs.Int.RustNames.{bit_or}
use Rattle.grain_base.specs.CapBits.{missing, THIS, INDEXING, PROPERTY, METHOD, MODULE}
use Rattle.grain_pools.specs.Qualified.{split_qualified}
use Rattle.grain_pools.specs.declared.chain.Chain.{Chain}
use Rattle.grain_pools.specs.declared.chain.Root.{Root}
use Rattle.grain_pools.specs.declared.chain.Root.TheVariants as roots
use Rattle.grain_pools.specs.declared.chain.Step.{Step}
use Rattle.grain_pools.specs.declared.chain.Step.TheVariants as steps

-- all that is asked is there
abbrev pub Allows : ℕ → ℕ → Type 0
Allows caps asked = missing caps asked ≡ 0

-- these and those of all the others
abbrev pub joined : ℕ → List ℕ → ℕ
joined caps [] = caps
joined caps (c ∷ cs) = joined (bit_or caps c) cs

-- a qualified name is one of a module
abbrev pub cut_caps : {A : Type 0} → Option A → ℕ
cut_caps None = 0
cut_caps (Some cut) = MODULE

abbrev pub name_caps : List ℕ → ℕ
name_caps name = cut_caps (split_qualified name)

abbrev pub root_caps : Root → ℕ
root_caps (roots.This pos) = THIS
root_caps (roots.Local slot n) = 0
root_caps (roots.Named n pos) = 0
root_caps roots.Temporary = 0

abbrev pub step_caps : Step → ℕ
step_caps (steps.Index operand flags pos bracket) = INDEXING
step_caps (steps.Property name getter setter flags pos) = PROPERTY
step_caps (steps.Method name argc operand flags pos) = METHOD

abbrev pub chain_caps : Chain → ℕ
chain_caps c = joined (root_caps c.root) (map step_caps c.steps.items)
