-- The positions of a chain, and what it and its steps take off the stack.
use Rattle.std.specs.Prelude.{◌≡◌, ℕ, ◌+◌, ◌-◌, ◌<◌, ◌≤◌, ◌^◌, Bool, true, false, List, [], ◌∷◌, ◌++◌, Option, Some, None, cond, length, map, nat_lt, take}
use Rattle.std.specs.List.{flat_map}
use Rattle.grain_base.specs.declared.position.Position.{Position}
use Rattle.grain_pools.specs.declared.chain.Chain.{Chain}
use Rattle.grain_pools.specs.declared.chain.Root.{Root}
use Rattle.grain_pools.specs.declared.chain.Root.TheVariants.{Local, Named, This, Temporary}
use Rattle.grain_pools.specs.declared.chain.Step.{Step}
use Rattle.grain_pools.specs.declared.chain.Step.TheVariants.{Index, Property, Method}
use Rattle.grain_pools.specs.declared.chain.Tail.{Tail}
use Rattle.grain_pools.specs.declared.chain.Tail.TheVariants.{Read, Assign}

abbrev pub root_positions : Root → List Position
root_positions (Local slot name) = []
root_positions (Named name pos) = pos ∷ []
root_positions (This pos) = pos ∷ []
root_positions Temporary = []

abbrev pub step_positions : Step → List Position
step_positions (Index operand flags pos bracket) = pos ∷ bracket ∷ []
step_positions (Property name getter setter flags pos) = pos ∷ []
step_positions (Method name argc operand flags pos) = pos ∷ []

abbrev pub steps_positions : List Step → List Position
steps_positions steps = flat_map step_positions steps

-- the positions in the order of their slots
abbrev pub positions : Chain → List Position
positions c = root_positions c.root ++ steps_positions c.steps.items

-- the number of positions fits 32 bits
abbrev pub SlotsFit : Chain → Type 0
SlotsFit c = length (positions c) < 2 ^ 32

-- the slot of the first position of a step
abbrev pub step_slot : Chain → ℕ → Option ℕ
step_slot c i =
    cond (nat_lt i (length c.steps.items)) (Some (length (root_positions c.root) + length (steps_positions (take i c.steps.items)))) None

-- whether a chain ends by assigning
abbrev pub assigns : Tail → Bool
assigns Read = false
assigns (Assign op) = true

-- whether a root lies on the operand stack
abbrev pub roots_on_stack : Root → Bool
roots_on_stack (Local slot name) = false
roots_on_stack (Named name pos) = false
roots_on_stack (This pos) = false
roots_on_stack Temporary = true

-- how many values a chain takes off the operand stack
abbrev pub consumed : Chain → ℕ
consumed c = c.operands + cond (roots_on_stack c.root) 1 0 + cond (assigns c.tail) 1 0

-- a step takes the operand at this place among those of its chain: an index one, a method one for each argument
abbrev pub TakesOperand : Step → ℕ → Type 0
TakesOperand (Index operand flags pos bracket) place = place ≡ operand
TakesOperand (Property name getter setter flags pos) place = ⊥
TakesOperand (Method name argc operand flags pos) place = (operand ≤ place) × (place < operand + argc)

-- the last place at which a step takes an operand, if it takes any
abbrev pub last_operand : Step → Option ℕ
last_operand (Index operand flags pos bracket) = Some operand
last_operand (Property name getter setter flags pos) = None
last_operand (Method name argc operand flags pos) = cond (nat_lt 0 argc) (Some (operand + argc - 1)) None

-- what a root, a step and a chain are, their positions apart: with this position in place of each
abbrev pub root_shape : Position → Root → Root
root_shape p (Local slot name) = Local slot name
root_shape p (Named name pos) = Named name p
root_shape p (This pos) = This p
root_shape p Temporary = Temporary

abbrev pub step_shape : Position → Step → Step
step_shape p (Index operand flags pos bracket) = Index operand flags p p
step_shape p (Property name getter setter flags pos) = Property name getter setter flags p
step_shape p (Method name argc operand flags pos) = Method name argc operand flags p

abbrev pub shape : Position → Chain → Root × List Step × Tail × ℕ
shape p c = (root_shape p c.root, map (step_shape p) c.steps.items, c.tail, c.operands)
