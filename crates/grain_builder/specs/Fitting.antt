-- When an operation fits where it stands, its targets being labels.
use Rattle.std.specs.Prelude.{◌≡◌, ℕ, ◌+◌, ◌≤◌, true, List, [], slice_get, get_or, Some}
use Rattle.std.specs.List.{Contains}
use Rattle.grain_code.specs.declared.op.Op.{Op}
use Rattle.grain_pools.specs.Chain.{consumed}
use Rattle.grain_pools.specs.declared.chain.Chain.{Chain}
use Rattle.grain_rules.specs.Counts.{Counts}
use Rattle.grain_rules.specs.Effects.{Meets, after_fall, after_jump, falls_through, targets}
use Rattle.grain_rules.specs.Rows.{gives, needs, takes}
use Rattle.grain_rules.specs.Setting.{Setting, chain_takes}
use Rattle.grain_rules.specs.Sinking.{Stays}
use Rattle.grain_builder.specs.Unfinished.{Spot}

abbrev pub spot_counts : Spot → Counts
spot_counts p = record { operands = p.operands; iterators = p.iterators; bases = p.bases }

abbrev pub spot_of : ℕ → Counts → Spot
spot_of home c = record { operands = c.operands; iterators = c.iterators; bases = c.bases; home = home }

-- the setting has these chains, and perhaps others after them
abbrev pub HasChains : Setting → List Chain → Type 0
HasChains s chains = (h : ℕ) (c : Chain) → slice_get chains h ≡ Some c → chain_takes s h ≡ consumed c

-- these are the targets of these switches, and perhaps of others after them
abbrev pub HasTables : List (List ℕ) → List (List ℕ) → Type 0
HasTables all tables = (w : ℕ) (t : List ℕ) → slice_get tables w ≡ Some t → get_or all w [] ≡ t

-- In each setting with these chains the operation finds here what it needs, leaves what the last handler stands on, and leads
-- to labels at which just that is found which it leaves.
pub record FitsAt (chains : List Chain) (tables : List (List ℕ)) (labels : List Spot) (op : Op) (p : Spot) : Type 0 where
  pub shallow : p.operands ≤ 65535
  pub meets : (s : Setting) → HasChains s chains → Meets s op (spot_counts p)
  pub stays : (s : Setting) → HasChains s chains → Stays s op (spot_counts p)
  pub jumps : (s : Setting) (all : List (List ℕ)) (l : ℕ) → HasChains s chains → HasTables all tables → Contains (targets all op) l → slice_get labels l ≡ Some (spot_of p.home (after_jump s op (spot_counts p)))

-- Each operation fits at its spot, and the next spot is what it leaves if it falls through.
pub record AreFitting (chains : List Chain) (tables : List (List ℕ)) (labels : List Spot) (ops : List Op) (spots : List Spot) : Type 0 where
  pub fits : (i : ℕ) (op : Op) (p : Spot) → slice_get ops i ≡ Some op → slice_get spots i ≡ Some p → FitsAt chains tables labels op p
  pub falls : (i : ℕ) (op : Op) (p : Spot) (s : Setting) → slice_get ops i ≡ Some op → slice_get spots i ≡ Some p → HasChains s chains → falls_through op ≡ true → slice_get spots (i + 1) ≡ Some (spot_of p.home (after_fall s op (spot_counts p)))

-- with this many operands the operation has what it needs, and this many are taken and given, whatever the pools hold
abbrev pub HasEffect : Op → ℕ → ℕ → ℕ → Type 0
HasEffect op operands t g = (s : Setting) → (needs s op ≤ operands) × (takes s op ≡ t) × (gives s op ≡ g)
