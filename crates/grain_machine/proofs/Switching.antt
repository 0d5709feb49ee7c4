-- Where a switch of a program leads.
use Rattle.std.proofs.Common.{◌≡◌, ℕ, false, true, ◌<◌, List, [], map, length, slice_get, Option, Some, None, refl, sym, subst, arith}
use Rattle.std.specs.Prelude.{IsSome, get_or}
use Rattle.std.specs.List.{Contains}
use Rattle.std.proofs.lemmas.List.{get_or-map}
use Rattle.std.proofs.lemmas.Option.{slice_get_within}
use Rattle.grain_code.specs.declared.op.Op.TheVariants as ops
use Rattle.grain_pools.specs.declared.switch.Switch.{Switch}
use Rattle.grain_rules.specs.Facts.{Entry}
use Rattle.grain_code.specs.declared.field.Pool.TheVariants.{Switches}
use Rattle.grain_rules.specs.Code.{switch_targets}
use Rattle.grain.specs.Lookups.{AreFound}
use Rattle.grain.specs.Program.{Program}

found_within : {A : Type 0} (xs : List A) (k : ℕ) (o : Option A) → slice_get xs k ≡ o → IsSome o → k < length xs
found_within xs k None e h = absurd (let f : false ≡ true = h in cc)
found_within xs k (Some x) e h = slice_get_within xs k x e

-- the switch that an operation names is there
pub switch_within : (p : Program) (index : ℕ) → AreFound p (ops.Switch index) → index < length p.switches
switch_within p index found =
    let h : IsSome (slice_get p.switches index) = found.entries 0 (Entry Switches index) (omega arith) in
    found_within p.switches index (slice_get p.switches index) refl h

-- where it leads is where the code says that it leads
pub among_targets : (switches : List Switch) (index target : ℕ) (d : Switch) → index < length switches
    → Contains (switch_targets (get_or switches index d)) target → Contains (get_or (map switch_targets switches) index []) target
among_targets switches index target d inside h = subst (λ (xs : List ℕ). Contains xs target) (sym (get_or-map switch_targets switches index d [] inside)) h
