-- Stack typings of a chunk, and what walks along its edges reach.
use Rattle.std.specs.Prelude.{◌≡◌, ◌↔◌, ℕ, ◌<◌, ◌≤◌, List, Option, Some, length, nat_eq}
use Rattle.std.specs.List.{Contains, IsDistinct}
use Rattle.grain_code.specs.Span.{Span}
use Rattle.grain_code.specs.declared.op.Op.{Op}
use Rattle.grain_rules.specs.Capabilities.{Allows}
use Rattle.grain_rules.specs.Rows.{caps_of}
use Rattle.grain_rules.specs.Code.{Code}
use Rattle.grain_rules.specs.Counts.{Counts, nothing}
use Rattle.grain_rules.specs.Effects.{Edge, Meets}
use Rattle.grain_rules.specs.Layout.{IsPlace, Reads}
use Rattle.grain_rules.specs.Sinking.{Stays}

-- a place of the chunk
pub record IsInChunk (code : Code) (chunk : Span) (at : ℕ) : Type 0 where
  pub entry : chunk.entry ≤ at
  pub end : at < chunk.end
  pub place : IsPlace code.layout at

-- a place of the chunk, with this operation
pub record StandsIn (code : Code) (chunk : Span) (at : ℕ) (op : Op) : Type 0 where
  pub within : IsInChunk code chunk at
  pub is : Reads code.layout at op

-- counts at a place of the chunk, with which its operation finds what it needs, of the stacks and of the host, and doesn't
-- sink below the base of the last handler
pub record Passes (code : Code) (chunk : Span) (at : ℕ) (c : Counts) (op : Op) : Type 0 where
  pub stands : StandsIn code chunk at op
  pub meets : Meets code.setting op c
  pub allowed : Allows code.setting.caps (caps_of code.setting op)
  pub stays : Stays code.setting op c

-- Counts for the places that it covers: the chunk starts with nothing, each covered operation passes, no place is deeper
-- than m, and each written edge leads to the very counts that its place has.
pub record IsTyping (code : Code) (chunk : Span) (m : ℕ) (typing : ℕ → Option Counts) : Type 0 where
  pub entry : typing chunk.entry ≡ Some nothing
  pub shallow : (at : ℕ) (c : Counts) → typing at ≡ Some c → c.operands ≤ m
  pub met : (at : ℕ) (c : Counts) → typing at ≡ Some c → (op : Op) × Passes code chunk at c op
  pub closed : (at : ℕ) (c : Counts) (op : Op) (b : ℕ) (d : Counts) → typing at ≡ Some c → Reads code.layout at op → Edge code op at c b d → typing b ≡ Some d

abbrev pub HasTyping : Code → Span → ℕ → Type 0
HasTyping code chunk m = (typing : ℕ → Option Counts) × IsTyping code chunk m typing

-- A walk along written edges leads from the entry to the place with these counts, and each state that it leaves passes.
pub data Reached (code : Code) (chunk : Span) : ℕ → Counts → Type 0 where
  begin : Reached code chunk chunk.entry nothing
  onward : {at : ℕ} {c : Counts} {op : Op} {b : ℕ} {d : Counts} → Reached code chunk at c → Passes code chunk at c op → Edge code op at c b d → Reached code chunk b d

-- the greatest operand count that is reached
pub record IsDeepest (code : Code) (chunk : Span) (n : ℕ) : Type 0 where
  pub most : (at : ℕ) (c : Counts) → Reached code chunk at c → c.operands ≤ n
  pub attained : (at : ℕ) × ((c : Counts) × Reached code chunk at c × (c.operands ≡ n))

-- this many places are reached
pub record IsReachedCount (code : Code) (chunk : Span) (n : ℕ) : Type 0 where
  pub places : List ℕ
  pub distinct : IsDistinct nat_eq places
  pub reached : (at : ℕ) → Contains places at ↔ ((c : Counts) × Reached code chunk at c)
  pub count : length places ≡ n
