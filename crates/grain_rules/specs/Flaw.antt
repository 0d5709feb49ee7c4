-- What each refusal says of what was verified.
use Rattle.std.specs.Prelude.{◌≡◌, ◌≢◌, ◌⊎◌, ℕ, ◌+◌, ◌<◌, ◌≤◌, true, List, [], length, take, Option, None, Some}
use Rattle.std.specs.Borrow.{Bor}
use Rattle.std.specs.List.{AllWithin, Contains, HoldsAt}
use Rattle.grain_base.specs.CapBits.{FUNCTION, missing}
use Rattle.grain_base.specs.declared.caps.Caps.{Caps}
use Rattle.grain_base.specs.declared.value.Dynamic.{Dynamic}
use Rattle.grain_code.specs.Span.{Span}
use Rattle.grain_code.specs.Split as split
use Rattle.grain_code.specs.InstructionTable.{width_of}
use Rattle.grain_code.specs.declared.op.Op.{Op}
use Rattle.grain_rules.specs.Accepted.{Input, AreIndexed, ConstantPasses, ConstantsPass, CodePasses, FunctionsPass, ChunkPasses, IsFramed}
use Rattle.grain_rules.specs.Capabilities.{Allows}
use Rattle.grain_rules.specs.Code.{Bytecode, coded}
use Rattle.grain_rules.specs.ConstCaps.{const_caps}
use Rattle.grain_rules.specs.Counts.{Counts}
use Rattle.grain_rules.specs.Effects.{Meets, iterators_needed, handlers_needed, targets, falls_through}
use Rattle.grain_rules.specs.Rows.{caps_of, needs}
use Rattle.grain_rules.specs.Indices.{IsOut}
use Rattle.grain_rules.specs.Layout.{IsStart, IsBoundary}
use Rattle.grain_rules.specs.Setting.{Setting}
use Rattle.grain_rules.specs.Sinking.{Sinks}
use Rattle.grain_rules.specs.Typing.{IsInChunk, StandsIn, Passes, HasTyping, Reached, IsDeepest}
use Rattle.grain_rules.specs.declared.error.VerifyError.{VerifyError}
use Rattle.grain_rules.specs.declared.error.VerifyError.TheVariants as errors

-- a reached state that passes falls through to the chunk's end
pub record FallsOff (code : Bytecode) (chunk : Span) : Type 0 where
  pub at : ℕ
  pub counts : Counts
  pub op : Op
  pub reached : Reached (coded code) chunk at counts
  pub passes : Passes (coded code) chunk at counts op
  pub goes : falls_through op ≡ true
  pub end : at + width_of op ≡ chunk.end

-- a reached state that passes names this target
pub record Leads (code : Bytecode) (chunk : Span) (at target : ℕ) : Type 0 where
  pub counts : Counts
  pub op : Op
  pub reached : Reached (coded code) chunk at counts
  pub passes : Passes (coded code) chunk at counts op
  pub names : Contains (targets code.switches op) target

-- a reached state, at a start of the chunk with this instruction
pub record Comes (code : Bytecode) (chunk : Span) (at : ℕ) (op : Op) (counts : Counts) : Type 0 where
  pub reached : Reached (coded code) chunk at counts
  pub stands : StandsIn (coded code) chunk at op

-- the same, the capabilities being there
pub record ComesAllowed (code : Bytecode) (chunk : Span) (at : ℕ) (op : Op) (counts : Counts) : Type 0 where
  pub comes : Comes code chunk at op counts
  pub allowed : Allows code.setting.caps (caps_of code.setting op)

-- two states of unlike counts are reached here
pub record Conflicts (code : Bytecode) (chunk : Span) (at expected found : ℕ) : Type 0 where
  pub one : Counts
  pub other : Counts
  pub one_reached : Reached (coded code) chunk at one
  pub other_reached : Reached (coded code) chunk at other
  pub unlike : one ≢ other
  pub expected_is : expected ≡ one.operands
  pub found_is : found ≡ other.operands

-- the entry is no start, or it is one and the end is no boundary
abbrev pub IsBadBound : Bytecode → Span → ℕ → Type 0
IsBadBound code chunk target =
    ((target ≡ chunk.entry) × (IsStart code.bytes chunk.entry → ⊥))
    ⊎ ((target ≡ chunk.end) × IsStart code.bytes chunk.entry × (IsBoundary code.bytes chunk.end → ⊥))

-- what is wrong with the chunk's own frame, to which no run leads
pub data IsFrameFlaw (code : Bytecode) (chunk : Span) : VerifyError → Type 0 where
  outside : {entry end len : ℕ} → (length code.bytes < chunk.end) ⊎ (chunk.end < chunk.entry) → IsFrameFlaw code chunk (errors.ChunkOutOfRange entry end len)
  no_bound : {at target : ℕ} → IsBadBound code chunk target → IsFrameFlaw code chunk (errors.JumpIntoAnInstruction at target)
  is_empty : chunk.entry ≡ chunk.end → IsFrameFlaw code chunk errors.FallsOffTheEnd

-- what a refusal of a chunk says of it; capabilities are those that the operation needs
abbrev pub ChunkFlaw : Bytecode → Span → VerifyError → Type 0
ChunkFlaw code chunk (errors.MissingCaps artifact absent at) =
    IsFramed code chunk × (artifact.0 ≡ code.setting.caps) × ((op : Op) × (c : Counts) × Comes code chunk at op c × (absent.0 ≡ missing code.setting.caps (caps_of code.setting op)) × (absent.0 ≢ 0))
ChunkFlaw code chunk (errors.ChunkOutOfRange entry end len) =
    (entry ≡ chunk.entry) × (end ≡ chunk.end) × (len ≡ length code.bytes) × ((length code.bytes < chunk.end) ⊎ (chunk.end < chunk.entry))
ChunkFlaw code chunk (errors.JumpIntoAnInstruction at target) =
    ((chunk.end ≤ length code.bytes) × (chunk.entry < chunk.end) × (at ≡ chunk.entry) × IsBadBound code chunk target)
    ⊎ (IsFramed code chunk × Leads code chunk at target × (chunk.entry ≤ target) × (target < chunk.end) × (IsStart code.bytes target → ⊥))
ChunkFlaw code chunk (errors.JumpOutOfRange at target) =
    IsFramed code chunk × Leads code chunk at target × ((target < chunk.entry) ⊎ (chunk.end ≤ target))
ChunkFlaw code chunk (errors.DepthConflict at expected found) =
    IsFramed code chunk × IsInChunk (coded code) chunk at × Conflicts code chunk at expected found
ChunkFlaw code chunk (errors.Underflow at need have) =
    IsFramed code chunk × ((op : Op) × (c : Counts) × ComesAllowed code chunk at op c × (need ≡ needs code.setting op) × (have ≡ c.operands) × (have < need))
ChunkFlaw code chunk (errors.IteratorUnderflow at) =
    IsFramed code chunk × ((op : Op) × (c : Counts) × ComesAllowed code chunk at op c × (c.iterators < iterators_needed op))
ChunkFlaw code chunk (errors.HandlerUnderflow at) =
    IsFramed code chunk × ((op : Op) × (c : Counts) × ComesAllowed code chunk at op c × (length c.bases < handlers_needed op))
ChunkFlaw code chunk (errors.SinksBelowHandler at need have) =
    IsFramed code chunk × ((op : Op) × (c : Counts) × ComesAllowed code chunk at op c × Meets code.setting op c × Sinks code.setting op c need have)
ChunkFlaw code chunk errors.FallsOffTheEnd =
    ((chunk.entry ≡ chunk.end) × (chunk.end ≤ length code.bytes)) ⊎ (IsFramed code chunk × FallsOff code chunk)
ChunkFlaw code chunk (errors.StackExceedsDeclared needed declared) =
    IsFramed code chunk × (declared ≡ chunk.max_stack) × (declared < needed) × IsDeepest (coded code) chunk needed × ((m : ℕ) × HasTyping (coded code) chunk m)
ChunkFlaw code chunk (errors.Undecodable at) = ⊥
ChunkFlaw code chunk (errors.TrailingBytes at len) = ⊥
ChunkFlaw code chunk (errors.BadIndex at what index) = ⊥
ChunkFlaw code chunk errors.OutOfMemory = ⊥

-- the refusal is a flaw of a chunk, and each earlier one passes
pub record IsFirstFlaw (code : Bytecode) (chunks : List Span) (e : VerifyError) : Type 0 where
  pub place : ℕ
  pub inside : place < length chunks
  pub earlier : AllWithin (ChunkPasses code) chunks 0 place
  pub here : HoldsAt (λ chunk. ChunkFlaw code chunk e) chunks place

-- constants, code and functions pass, and the refusal is that of the first chunk that doesn't
pub record IsFlawOfChunks (i : Input) (e : VerifyError) : Type 0 where
  pub constants : ConstantsPass i
  pub code : CodePasses i
  pub functions : FunctionsPass i
  pub chunk : IsFirstFlaw i.code i.chunks e

-- the first constant whose capabilities aren't all there has these
pub record ConstantAsks (caps : ℕ) (consts : List Dynamic) (asked : ℕ) : Type 0 where
  pub place : ℕ
  pub inside : place < length consts
  pub earlier : AllWithin (ConstantPasses caps) consts 0 place
  pub here : HoldsAt (λ value. const_caps value ≡ Some asked) consts place
  pub refused : Allows caps asked → ⊥

-- constants and code pass, there are functions, and they aren't allowed
pub record FunctionsAsk (i : Input) (asked : ℕ) : Type 0 where
  pub constants : ConstantsPass i
  pub code : CodePasses i
  pub functions : i.functions ≢ []
  pub what : asked ≡ FUNCTION
  pub refused : Allows i.code.setting.caps FUNCTION → ⊥

-- the bytes up to an address are instructions whose indices are in bounds
pub record PassesTo (setting : Setting) (bytes : List ℕ) (at : ℕ) : Type 0 where
  pub inside : at < length bytes
  pub front : AreIndexed setting (take at bytes)

-- what a refusal of the code says of it
pub data CodeFlaw (setting : Setting) (bytes : List ℕ) : VerifyError → Type 0 where
  -- behind a front that passes stands no instruction
  undecodable : {at : ℕ} → PassesTo setting bytes at → split.NoneStandsAt bytes at → CodeFlaw setting bytes (errors.Undecodable at)
  -- behind such a front stands one with an index out of bounds
  bad_index : {at : ℕ} {what : Bor (List ℕ)} {index : ℕ} (op : Op) → PassesTo setting bytes at → split.StandsAt bytes at op → IsOut setting op what.now index → CodeFlaw setting bytes (errors.BadIndex at what index)

-- What each refusal says, in the order of the tests. A lack of memory says nothing of what was verified, and bytes never
-- trail.
pub data Flaw (i : Input) : VerifyError → Type 0 where
  of_constant : {artifact absent : Caps} → artifact.0 ≡ i.code.setting.caps → ConstantAsks i.code.setting.caps i.consts absent.0 → Flaw i (errors.MissingCaps artifact absent 0)
  of_code : {e : VerifyError} → ConstantsPass i → CodeFlaw i.code.setting i.code.bytes e → Flaw i e
  of_functions : {artifact absent : Caps} → artifact.0 ≡ i.code.setting.caps → FunctionsAsk i absent.0 → Flaw i (errors.MissingCaps artifact absent 0)
  of_chunk : {e : VerifyError} → IsFlawOfChunks i e → Flaw i e

-- the flaw is one of the chunk at this place, or of what is tested before the chunks
abbrev pub FlawAt : Input → Option ℕ → VerifyError → Type 0
FlawAt i None e = Flaw i e × (IsFlawOfChunks i e → ⊥)
FlawAt i (Some place) e = (flaw : IsFlawOfChunks i e) × (flaw.chunk.place ≡ place)
