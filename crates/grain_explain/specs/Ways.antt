-- Ways along edges from a chunk's entry, and what the state shows at which one ends.
use Rattle.std.specs.Prelude.{◌≡◌, ◌≢◌, ◌⊎◌, ℕ, ◌+◌, ◌<◌, ◌≤◌, true, List, [], ◌∷◌, length, map}
use Rattle.std.specs.List.{Contains}
use Rattle.grain_base.specs.CapBits.{missing}
use Rattle.grain_code.specs.InstructionTable.{width_of}
use Rattle.grain_code.specs.Span.{Span}
use Rattle.grain_code.specs.declared.op.Op.{Op}
use Rattle.grain_rules.specs.Capabilities.{Allows}
use Rattle.grain_rules.specs.Code.{Bytecode, coded}
use Rattle.grain_rules.specs.Counts.{Counts, nothing}
use Rattle.grain_rules.specs.Effects.{Edge, Meets, falls_through, handlers_needed, iterators_needed, targets}
use Rattle.grain_rules.specs.Flaw.{ChunkFlaw, IsFrameFlaw}
use Rattle.grain_rules.specs.Layout.{IsStart}
use Rattle.grain_rules.specs.Rows.{caps_of, needs}
use Rattle.grain_rules.specs.Sinking.{Sinks}
use Rattle.grain_rules.specs.Typing.{Passes, StandsIn}
use Rattle.grain_rules.specs.declared.error.VerifyError.{VerifyError}
use Rattle.grain_rules.specs.declared.error.VerifyError.TheVariants as flaws
use Rattle.grain_explain.specs.RowView.{counts_of}
use Rattle.grain_explain.specs.declared.arrival.Arrival.{Arrival}
use Rattle.grain_explain.specs.declared.refusal.Refusal.{Refusal}
use Rattle.grain_explain.specs.declared.row.LinkedBase.{LinkedBase}
use Rattle.grain_explain.specs.declared.row.Row.{Row}

-- a state of a walk: an address with its counts
abbrev pub Stop : Type 0
Stop = ℕ × Counts

abbrev pub row_stop : List LinkedBase → Row → Stop
row_stop bases r = (r.at, counts_of bases r)

abbrev pub arrival_stop : List LinkedBase → Arrival → Stop
arrival_stop bases a = row_stop bases a.row

abbrev pub stops_of : List LinkedBase → List Row → List Stop
stops_of bases rows = map (row_stop bases) rows

-- what a chunk's walk begins with
abbrev pub first_stop : Span → Stop
first_stop chunk = (chunk.entry, nothing)

-- the operation at the one passes with its counts, and an edge leads from it to the other
abbrev pub Follows : Bytecode → Span → Stop → Stop → Type 0
Follows code chunk x y = (op : Op) × Passes (coded code) chunk x.0 x.1 op × Edge (coded code) op x.0 x.1 y.0 y.1

-- such edges lead from the entry to a state, by these states, listed from the last back to the first
abbrev pub IsWay : Bytecode → Span → Stop → List Stop → Type 0
IsWay code chunk x [] = x ≡ first_stop chunk
IsWay code chunk x (y ∷ earlier) = Follows code chunk y x × IsWay code chunk y earlier

-- the same with that state in front
pub record IsWayTo (code : Bytecode) (chunk : Span) (x : Stop) (way : List Stop) : Type 0 where
  pub earlier : List Stop
  pub is : way ≡ x ∷ earlier
  pub along : IsWay code chunk x earlier

-- the operation at a state passes, and names this target
pub record NamesTarget (code : Bytecode) (chunk : Span) (x : Stop) (target : ℕ) : Type 0 where
  pub op : Op
  pub passes : Passes (coded code) chunk x.0 x.1 op
  pub names : Contains (targets code.switches op) target

-- the operation at a state passes and falls through to the chunk's end
pub record FallsOffAt (code : Bytecode) (chunk : Span) (x : Stop) : Type 0 where
  pub op : Op
  pub passes : Passes (coded code) chunk x.0 x.1 op
  pub goes : falls_through op ≡ true
  pub end : x.0 + width_of op ≡ chunk.end

-- the state shows the very flaw
abbrev pub Shows : Bytecode → Span → Stop → VerifyError → Type 0
Shows code chunk x (flaws.MissingCaps artifact absent at) =
    (at ≡ x.0) × (artifact.0 ≡ code.setting.caps) × ((op : Op) × StandsIn (coded code) chunk x.0 op × (absent.0 ≡ missing code.setting.caps (caps_of code.setting op)) × (absent.0 ≢ 0))
Shows code chunk x (flaws.Undecodable at) = ⊥
Shows code chunk x (flaws.TrailingBytes at len) = ⊥
Shows code chunk x (flaws.ChunkOutOfRange entry end len) = ⊥
Shows code chunk x (flaws.JumpOutOfRange at target) = (at ≡ x.0) × NamesTarget code chunk x target × ((target < chunk.entry) ⊎ (chunk.end ≤ target))
Shows code chunk x (flaws.JumpIntoAnInstruction at target) =
    (at ≡ x.0) × NamesTarget code chunk x target × (chunk.entry ≤ target) × (target < chunk.end) × (IsStart code.bytes target → ⊥)
Shows code chunk x (flaws.DepthConflict at expected found) = ⊥
Shows code chunk x (flaws.Underflow at need have) =
    (at ≡ x.0) × ((op : Op) × StandsIn (coded code) chunk x.0 op × Allows code.setting.caps (caps_of code.setting op) × (need ≡ needs code.setting op) × (have ≡ x.1.operands) × (have < need))
Shows code chunk x flaws.FallsOffTheEnd = FallsOffAt code chunk x
Shows code chunk x (flaws.StackExceedsDeclared needed declared) = (needed ≡ x.1.operands) × (declared ≡ chunk.max_stack) × (declared < needed)
Shows code chunk x (flaws.IteratorUnderflow at) =
    (at ≡ x.0) × ((op : Op) × StandsIn (coded code) chunk x.0 op × Allows code.setting.caps (caps_of code.setting op) × (x.1.iterators < iterators_needed op))
Shows code chunk x (flaws.HandlerUnderflow at) =
    (at ≡ x.0) × ((op : Op) × StandsIn (coded code) chunk x.0 op × Allows code.setting.caps (caps_of code.setting op) × (length x.1.bases < handlers_needed op))
Shows code chunk x (flaws.SinksBelowHandler at need have) =
    (at ≡ x.0) × ((op : Op) × StandsIn (coded code) chunk x.0 op × Allows code.setting.caps (caps_of code.setting op) × Meets code.setting op x.1 × Sinks code.setting op x.1 need have)
Shows code chunk x (flaws.BadIndex at what index) = ⊥
Shows code chunk x flaws.OutOfMemory = ⊥

-- The ways that a refusal has show its flaw: the frame's has none, a conflict has two to one address, with unlike counts, and
-- each other has one, at whose end a state shows it.
pub data IsWitness (code : Bytecode) (chunk : Span) : List Stop → List Stop → VerifyError → Type 0 where
  of_frame : {e : VerifyError} → IsFrameFlaw code chunk e → IsWitness code chunk [] [] e
  of_stop : {way : List Stop} {e : VerifyError} (x : Stop) → IsWayTo code chunk x way → Shows code chunk x e → IsWitness code chunk way [] e
  of_conflict : {way other : List Stop} {at expected found : ℕ} (x y : Stop) → IsWayTo code chunk x way → IsWayTo code chunk y other → x.0 ≡ at → y.0 ≡ at → x.1 ≢ y.1
      → expected ≡ x.1.operands → found ≡ y.1.operands → IsWitness code chunk way other (flaws.DepthConflict at expected found)

-- the refusal names a flaw of the chunk, and its ways show it
pub record IsShownRefusal (code : Bytecode) (chunk : Span) (bases : List LinkedBase) (r : Refusal) : Type 0 where
  pub flaw : ChunkFlaw code chunk r.error
  pub witness : IsWitness code chunk (stops_of bases r.way.items) (stops_of bases r.other.items) r.error
