-- What is true of all that is assembled.
use Rattle.std.specs.Prelude.{◌≡◌, ℕ, ◌+◌, ◌<◌, ◌≤◌, Bool, true, cond, List, [], ◌∷◌, length, slice_get, Some}
use Rattle.grain_code.specs.Span.{Span}
use Rattle.grain_code.specs.declared.op.Op.{Op}
use Rattle.grain_pools.specs.declared.chain.Chain.{Chain}
use Rattle.grain_rules.specs.Counts.{Base, nothing, last_base}
use Rattle.grain_builder.specs.Fitting.{AreFitting, spot_of}
use Rattle.grain_builder.specs.Unfinished.{Level, Spot, spot}

-- All that is kept: the operations, whose targets are labels; chains; the labels of each switch; the spot of each label, the
-- labels that were open around it, and the operation to which it is bound; the chunks that are complete; and what the rules see.
pub record Workings : Type 0 where
  pub ops : List Op
  pub chains : List Chain
  pub tables : List (List ℕ)
  pub labels : List Spot
  pub outers : List ℕ
  pub targets : List ℕ
  pub cuts : List Span
  pub operands : ℕ
  pub level : Level
  pub pending : ℕ
  pub fixed : Bool

-- what a label is bound to that isn't bound yet
abbrev pub nowhere : ℕ
nowhere = 4294967295

-- a chunk that begins with nothing on the stacks, and nothing behind it is part of it
pub record IsChunk (ops : List Op) (spots : List Spot) (cut : Span) : Type 0 where
  pub entry : slice_get spots cut.entry ≡ Some (spot_of cut.entry nothing)
  pub inside : cut.end ≤ length ops
  pub most : cut.max_stack ≡ 65535
  pub behind : (i : ℕ) (p : Spot) → cut.end ≤ i → slice_get spots i ≡ Some p → p.home ≡ cut.entry → ⊥

-- Labels from the open ones on are bound, and so are those between a label and the ones that were open around it.
pub record AreBound (outers targets : List ℕ) (pending : ℕ) : Type 0 where
  pub behind : (l at : ℕ) → pending ≤ l → slice_get targets l ≡ Some at → at < nowhere
  pub between : (l o k at : ℕ) → slice_get outers l ≡ Some o → o ≤ k → k < l → slice_get targets k ≡ Some at → at < nowhere

-- the last handler stands on at most this many iterators, and each other one on no more than the one that was armed after it
abbrev pub AreNested : ℕ → List Base → Type 0
AreNested n [] = Unit {0}
AreNested n (b ∷ bases) = (b.iterators ≤ n) × AreNested b.iterators bases

-- what has to stay is no less than the handlers stand on, and no more than there is of iterators
pub record IsBased (level : Level) : Type 0 where
  pub operands : (last_base level.bases).operands ≤ level.floor
  pub iterators : AreNested level.least level.bases
  pub there : level.least ≤ level.iterators

-- There are spots with which all operations fit, and at which labels are bound.
pub record IsWellMade (k : Workings) : Type 0 where
  pub spots : List Spot
  pub fitting : AreFitting k.chains k.tables k.labels k.ops spots
  pub count : length spots ≡ length k.ops + cond k.fixed 1 0
  pub last : k.fixed ≡ true → slice_get spots (length k.ops) ≡ Some (spot k.operands k.level)
  pub lengths : (length k.labels ≡ length k.targets) × (length k.outers ≡ length k.targets)
  pub landing : (l at : ℕ) (p : Spot) → slice_get k.targets l ≡ Some at → slice_get k.labels l ≡ Some p → at < nowhere → slice_get spots at ≡ Some p
  pub homes : (i : ℕ) (p : Spot) → slice_get spots i ≡ Some p → p.home ≤ i
  pub home : k.level.home ≤ length k.ops
  pub begun : slice_get spots k.level.home ≡ Some (spot_of k.level.home nothing)
  pub bound : AreBound k.outers k.targets k.pending
  pub cuts : (j : ℕ) (cut : Span) → slice_get k.cuts j ≡ Some cut → IsChunk k.ops spots cut × (cut.end ≤ k.level.home)
  pub ended : 1 ≤ k.level.home → 1 ≤ length k.cuts
  pub room : k.operands ≤ 65535
  pub base : IsBased k.level
