-- Indices are in bounds in pools of one flat form alike.
use Rattle.std.proofs.Common.{◌≡◌, ℕ, List, [], get_or, length, map, refl, sym, ap, ◌∙◌}
use Rattle.std.specs.List.{Contains}
use Rattle.std.proofs.lemmas.List.{length-map}
use Rattle.std.proofs.lemmas.Slice.Zip.{AllZip-long}
use Rattle.grain_pools.specs.Dispatch.{Arms}
use Rattle.grain_rules.specs.Setting.{Setting}
use Rattle.grain_pools.specs.declared.chain.Chain.{Chain}
use Rattle.grain_code.specs.declared.field.Pool.TheVariants as pools
use Rattle.grain_flat.specs.declared.records.CPools.{CPools}
use Rattle.grain_flat.specs.Flat.{arm_constants}
use Rattle.grain_flat.proofs.FlatAlike.{AreOf, arms_same, constant_same, facts_same, setting_of}
use Rattle.grain_rules.proofs.Members.{at_place}
use Rattle.grain_rules.proofs.TestedAlike.{SameSizes, TestedAlike, tested_alike}
use Rattle.grain_flat.proofs.SwitchRows.{SameArms}

module _ (caps : ℕ) (p : CPools) (cs ds : List Chain) (ts us : List Arms) (one : AreOf p cs ts) (other : AreOf p ds us) where
  abbrev s : Setting
  s = setting_of caps p cs ts

  abbrev t : Setting
  t = setting_of caps p ds us

  switches_long : length (map arm_constants ts) ≡ length (map arm_constants us)
  switches_long = length-map ts arm_constants ∙ sym (AllZip-long SameArms ts us (arms_same p cs ds ts us one other)) ∙ sym (length-map us arm_constants)

  sizes_same : SameSizes s t
  sizes_same pools.Chains = ap length (facts_same p cs ds ts us one other)
  sizes_same pools.Switches = switches_long
  sizes_same pools.Constants = refl
  sizes_same pools.Names = refl
  sizes_same pools.Operators = refl
  sizes_same pools.OpAssignments = refl
  sizes_same pools.Fragments = refl
  sizes_same pools.SyntaxSites = refl

  cases_shared : (w x : ℕ) → Contains (get_or (map arm_constants ts) w []) x → Contains (get_or (map arm_constants us) w []) x
  cases_shared = at_place SameArms arm_constants arm_constants constant_same ts us (arms_same p cs ds ts us one other)

pub flat_tested : (caps : ℕ) (p : CPools) (cs ds : List Chain) (ts us : List Arms) → AreOf p cs ts → AreOf p ds us → TestedAlike (setting_of caps p cs ts) (setting_of caps p ds us)
flat_tested caps p cs ds ts us one other =
    tested_alike (setting_of caps p cs ts) (setting_of caps p ds us) refl (sizes_same caps p cs ds ts us one other) (facts_same p cs ds ts us one other)
    (cases_shared caps p cs ds ts us one other) (cases_shared caps p ds cs us ts other one)
