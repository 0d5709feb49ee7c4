-- Every capability suffices for whatever operations, chains and names ask.
use Rattle.std.proofs.Common.{ℕ, zero, suc, List, [], ◌∷◌, map, get_or, Option, Some, None, bit_or, refl, ◌∙◌}
use Rattle.std.proofs.lemmas.Nat.{and_or_apart}
use Rattle.grain_base.specs.CapBits.{THIS}
use Rattle.grain_code.specs.declared.op.Op.{Op}
use Rattle.grain_code.specs.declared.op.Op.TheVariants as ops
use Rattle.grain_code.specs.declared.op.Receiver.TheVariants as receiver
use Rattle.grain_pools.specs.Qualified.{split_qualified}
use Rattle.grain_pools.specs.declared.chain.Chain.{Chain}
use Rattle.grain_pools.specs.declared.chain.Root.{Root}
use Rattle.grain_pools.specs.declared.chain.Root.TheVariants as roots
use Rattle.grain_pools.specs.declared.chain.Step.{Step}
use Rattle.grain_pools.specs.declared.chain.Step.TheVariants as steps
use Rattle.grain_pools.specs.declared.switch.Switch.{Switch}
use Rattle.grain_rules.specs.Capabilities.{Allows, cut_caps, joined, name_caps, root_caps, step_caps}
use Rattle.grain_rules.specs.Facts.{ChainFacts, chain_facts, facts_with}
use Rattle.grain_rules.specs.Rows.{caps_of}
use Rattle.grain_rules.specs.Setting.{with_caps}
use Rattle.rhai_compile.specs.Capabilities.{every_capability}

both : (a b : ℕ) → Allows every_capability a → Allows every_capability b → Allows every_capability (bit_or a b)
both a b first second = and_or_apart 0x8000 a b second ∙ first

cut_allowed : {A : Type 0} (found : Option A) → Allows every_capability (cut_caps found)
cut_allowed None = refl
cut_allowed (Some x) = refl

name_allowed : (names : List (List ℕ)) (n : ℕ) → Allows every_capability (get_or (map name_caps names) n 0)
name_allowed [] n = refl
name_allowed (x ∷ names) zero = cut_allowed (split_qualified x)
name_allowed (x ∷ names) (suc n) = name_allowed names n

root_allowed : (root : Root) → Allows every_capability (root_caps root)
root_allowed (roots.This pos) = refl
root_allowed (roots.Local slot n) = refl
root_allowed (roots.Named n pos) = refl
root_allowed roots.Temporary = refl

step_allowed : (step : Step) → Allows every_capability (step_caps step)
step_allowed (steps.Index operand flags pos bracket) = refl
step_allowed (steps.Property n getter setter flags pos) = refl
step_allowed (steps.Method n argc operand flags pos) = refl

steps_allowed : (caps : ℕ) (list : List Step) → Allows every_capability caps → Allows every_capability (joined caps (map step_caps list))
steps_allowed caps [] allowed = allowed
steps_allowed caps (step ∷ list) allowed = steps_allowed (bit_or caps (step_caps step)) list (both caps (step_caps step) allowed (step_allowed step))

chain_allowed : (chains : List Chain) (h : ℕ) → Allows every_capability (get_or (map (λ (c : ChainFacts). c.asks) (map chain_facts chains)) h 0)
chain_allowed [] h = refl
chain_allowed (c ∷ chains) zero = steps_allowed (root_caps c.root) c.steps.items (root_allowed c.root)
chain_allowed (c ∷ chains) (suc h) = chain_allowed chains h

module _ (consts : ℕ) (names : List (List ℕ)) (tokens assign_ops residuals : ℕ) (chains : List Chain) (switches : List Switch) where
  pub all_allowed : (op : Op) → Allows every_capability (caps_of (with_caps every_capability (facts_with consts names tokens assign_ops residuals chains switches)) op)
  all_allowed (ops.Call n a op capture) = name_allowed names n
  all_allowed (ops.LoadNamed n) = name_allowed names n
  all_allowed (ops.Chain h) = chain_allowed chains h
  all_allowed (ops.CallRef n a (receiver.Local slot) capture) = name_allowed names n
  all_allowed (ops.CallRef n a (receiver.Named m) capture) = name_allowed names n
  all_allowed (ops.CallRef n a receiver.This capture) = both THIS (get_or (map name_caps names) n 0) refl (name_allowed names n)
  all_allowed op = refl
