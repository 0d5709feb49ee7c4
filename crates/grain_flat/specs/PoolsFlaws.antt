-- Where pools aren't flat.
use Rattle.std.specs.Prelude.{◌≡◌, ◌≢◌, ◌⊎◌, ℕ, ◌+◌, ◌<◌, ◌≤◌, List, get_or, length, sum_by, take, None}
use Rattle.std.specs.List.{All, AllWithin, HoldsAt}
use Rattle.grain_pools.specs.Names.{span_flaw}
use Rattle.grain_flat.specs.Flat.{IsAskedRow, IsChainRow, IsStepRow}
use Rattle.grain_flat.specs.declared.lists.TheConstants.{CONSTANTS, NAMES, CHAINS, STEPS, SWITCHES, CASES, RANGES}
use Rattle.grain_flat.specs.declared.records.CChain.{CChain}
use Rattle.grain_flat.specs.declared.records.CPools.{CPools}
use Rattle.grain_flat.specs.declared.records.CPoolsFlaw.{CPoolsFlaw}
use Rattle.grain_flat.specs.declared.records.CSwitch.{CSwitch}

-- the first entry of which this doesn't hold
pub record IsFirstOther {A : Type 0} (P : A → Type 0) (entries : List A) (index : ℕ) : Type 0 where
  pub inside : index < length entries
  pub earlier : AllWithin P entries 0 index
  pub here : HoldsAt (λ entry. P entry → ⊥) entries index

-- how many steps the chains have, and how many cases and ranges the switches
abbrev pub all_steps : List CChain → ℕ
all_steps chains = sum_by (λ c. c.steps) chains

abbrev pub all_cases : List CSwitch → ℕ
all_cases switches = sum_by (λ s. s.cases) switches

abbrev pub all_ranges : List CSwitch → ℕ
all_ranges switches = sum_by (λ s. s.ranges) switches

-- The first chain with which the chains have more steps than there are, or else the first step that no chain has.
pub data StepsFlaw (chains : List CChain) (steps : ℕ) : CPoolsFlaw → Type 0 where
  chain_overruns : {index : ℕ} → index < length chains → all_steps (take index chains) ≤ steps → steps < all_steps (take (index + 1) chains) → StepsFlaw chains steps (record { list = CHAINS; index = index })
  step_left : {index : ℕ} → index < steps → all_steps chains ≡ index → StepsFlaw chains steps (record { list = STEPS; index = index })

-- these numbers of cases and ranges are enough for these switches
abbrev pub HaveArms : List CSwitch → ℕ → ℕ → Type 0
HaveArms switches cases ranges = (all_cases switches ≤ cases) × (all_ranges switches ≤ ranges)

-- The first switch with which the switches have more cases or more ranges than there are, or else the first case, or the first
-- range, that no switch has.
pub data ArmsFlaw (switches : List CSwitch) (cases ranges : ℕ) : CPoolsFlaw → Type 0 where
  switch_overruns : {index : ℕ} → index < length switches → HaveArms (take index switches) cases ranges → (HaveArms (take (index + 1) switches) cases ranges → ⊥)
      → ArmsFlaw switches cases ranges (record { list = SWITCHES; index = index })
  case_left : {index : ℕ} → index < cases → all_cases switches ≡ index → ArmsFlaw switches cases ranges (record { list = CASES; index = index })
  range_left : {index : ℕ} → all_cases switches ≡ cases → index < ranges → all_ranges switches ≡ index → ArmsFlaw switches cases ranges (record { list = RANGES; index = index })

-- the bytes from this start to the next are a name
abbrev pub IsNameCut : List ℕ → List ℕ → ℕ → Type 0
IsNameCut blob starts index = span_flaw blob (get_or starts index 0) (get_or starts (index + 1) 0) ≡ None

-- The starts don't begin with 0; or this is the first name that isn't cut; or all are, and bytes are left behind the last
-- one. Then the index is how many names there are.
abbrev pub IsBadName : List ℕ → List ℕ → ℕ → Type 0
IsBadName blob starts index =
    ((get_or starts 0 1 ≢ 0) × (index ≡ 0))
    ⊎ ((get_or starts 0 1 ≡ 0) × (index + 1 < length starts) × (IsNameCut blob starts index → ⊥))
    ⊎ ((get_or starts 0 1 ≡ 0) × (index + 1 ≡ length starts) × (get_or starts index 0 ≢ length blob))

pub record IsFirstBadName (blob starts : List ℕ) (index : ℕ) : Type 0 where
  pub earlier : (k : ℕ) → k < index → IsNameCut blob starts k
  pub here : IsBadName blob starts index

-- each kind is known, and what a kind doesn't use is 0
pub record AreRows (p : CPools) : Type 0 where
  pub constants : All IsAskedRow p.constants.now
  pub chains : All IsChainRow p.chains.now
  pub steps : All IsStepRow p.steps.now

-- the chains have as many steps as there are
pub record AreStepped (p : CPools) : Type 0 where
  pub rows : AreRows p
  pub steps : all_steps p.chains.now ≡ length p.steps.now

-- and the switches as many cases and ranges
pub record AreArmed (p : CPools) : Type 0 where
  pub stepped : AreStepped p
  pub cases : all_cases p.switches.now ≡ length p.cases.now
  pub ranges : all_ranges p.switches.now ≡ length p.ranges.now

-- The first list that is wrong, and its first entry that is.
pub data PoolsFlaw (p : CPools) : CPoolsFlaw → Type 0 where
  wrong_constant : {index : ℕ} → IsFirstOther IsAskedRow p.constants.now index → PoolsFlaw p (record { list = CONSTANTS; index = index })
  wrong_chain : {index : ℕ} → All IsAskedRow p.constants.now → IsFirstOther IsChainRow p.chains.now index → PoolsFlaw p (record { list = CHAINS; index = index })
  wrong_step : {index : ℕ} → All IsAskedRow p.constants.now → All IsChainRow p.chains.now → IsFirstOther IsStepRow p.steps.now index → PoolsFlaw p (record { list = STEPS; index = index })
  wrong_steps : {flaw : CPoolsFlaw} → AreRows p → StepsFlaw p.chains.now (length p.steps.now) flaw → PoolsFlaw p flaw
  wrong_arms : {flaw : CPoolsFlaw} → AreStepped p → ArmsFlaw p.switches.now (length p.cases.now) (length p.ranges.now) flaw → PoolsFlaw p flaw
  wrong_name : {index : ℕ} → AreArmed p → IsFirstBadName p.names.now p.starts.now index → PoolsFlaw p (record { list = NAMES; index = index })
