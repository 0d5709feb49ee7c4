-- Rows with the chunk of which they are to be a typing.
use Rattle.std.specs.Prelude.{◌≡◌, ◌⊎◌, ℕ, ◌≤◌, true, List, Some, slice_get}
use Rattle.std.specs.List.{All, Contains}
use Rattle.grain_code.specs.Span.{Span}
use Rattle.grain_code.specs.declared.op.Op.{Op}
use Rattle.grain_rules.specs.Code.{Bytecode, bytecode_beside, coded}
use Rattle.grain_rules.specs.Counts.{Counts}
use Rattle.grain_rules.specs.Effects.{Edge}
use Rattle.grain_rules.specs.Facts.{Facts}
use Rattle.grain_rules.specs.FlowFields.{fall_for, falls_for, jump_for, targets_for}
use Rattle.grain_rules.specs.Typing.{IsInChunk, Passes}
use Rattle.grain_explain.specs.Certificate.{RowsFlaw}
use Rattle.grain_rules.specs.EffectView.{flow_in}
use Rattle.grain_explain.specs.OnEdges.{counts_on, left_by}
use Rattle.grain_explain.specs.RowView.{AreAscending, AreLinked, AreListed, counts_of, typing_of}
use Rattle.grain_explain.specs.declared.edge.OnEdge.{OnEdge}
use Rattle.grain_rules.specs.declared.effect.Effect.{Effect}
use Rattle.grain_explain.specs.declared.error.TypingError.{TypingError}
use Rattle.grain_explain.specs.declared.error.TypingError.TheVariants as errors
use Rattle.grain_explain.specs.declared.claim.Claim.{Claim}
use Rattle.grain_explain.specs.declared.needs.Lack.{Lack}
use Rattle.grain_explain.specs.declared.needs.Lack.TheVariants as lacks
use Rattle.grain_explain.specs.declared.row.LinkedBase.{LinkedBase}
use Rattle.grain_explain.specs.declared.row.Row.{Row}

-- code in its setting, a chunk of it, rows with the bases whose lists they name, and how many operands a row may have
pub record Claimed : Type 0 where
  pub code : Bytecode
  pub chunk : Span
  pub bases : List LinkedBase
  pub rows : List Row
  pub most : ℕ

-- of a claim whose pools say this of themselves
abbrev pub claimed : {P Leads : Type 0} → (P → Facts) → (P → List (List ℕ)) → Claim P Leads → Claimed
claimed facts leads g = record {
  code = bytecode_beside g.caps.0 (facts g.pools.now) (leads g.pools.now) g.code.now;
  chunk = g.chunk.now;
  bases = g.bases.now;
  rows = g.rows.now;
  most = g.most;
}

-- the chunk with as many operands as a row may have
abbrev pub span_claimed : Claimed → Span
span_claimed g = record g.chunk { max_stack = g.most }

-- the refusal says what is so of the rows
abbrev pub RefusesRows : Claimed → TypingError → Type 0
RefusesRows g e = RowsFlaw g.code (span_claimed g) g.bases g.rows e

-- the lists that rows name are there, and the rows are in the order of their addresses
pub record IsWellFormed (g : Claimed) : Type 0 where
  pub linked : AreLinked g.bases
  pub listed : AreListed g.bases g.rows
  pub ascending : AreAscending g.rows

-- each row is at a start of the chunk
abbrev pub ArePlaced : Claimed → Type 0
ArePlaced g = (k : ℕ) (r : Row) → slice_get g.rows k ≡ Some r → IsInChunk (coded g.code) g.chunk r.at

-- the row at an address has the counts of an edge
abbrev pub HasRow : Claimed → OnEdge → ℕ → Type 0
HasRow g e at = typing_of g.bases g.rows at ≡ Some (counts_on g.bases e)

-- the refusal names a row and an address whose row, if it has one, hasn't the counts of the edge
abbrev pub IsUnmatched : Claimed → OnEdge → ℕ → ℕ → TypingError → Type 0
IsUnmatched g e number at error = (error ≡ errors.Unmatched number at) × (HasRow g e at → ⊥)

-- that of one of these addresses
abbrev pub MissesOne : Claimed → OnEdge → ℕ → List ℕ → TypingError → Type 0
MissesOne g e number addresses error = (at : ℕ) × Contains addresses at × IsUnmatched g e number at error

-- the counts of a row on its edges, if its operation has this effect
abbrev pub jumping : List LinkedBase → Row → Effect → Counts
jumping bases r e = jump_for (flow_in e) (left_by e r.operands) (counts_of bases r)

abbrev pub falling_on : List LinkedBase → Row → Effect → Counts
falling_on bases r e = fall_for (flow_in e) (left_by e r.operands) (counts_of bases r)

-- the rows at the targets, and at the next address where the operation falls through, have the counts of the edges
pub record AreMatched (g : Claimed) (r : Row) (e : Effect) (next : ℕ) : Type 0 where
  pub targets : All (λ t. typing_of g.bases g.rows t ≡ Some (jumping g.bases r e)) (targets_for g.code.switches (flow_in e))
  pub falls : falls_for (flow_in e) ≡ true → typing_of g.bases g.rows next ≡ Some (falling_on g.bases r e)

-- the refusal names the row, and the address of an edge whose counts the row there hasn't
pub record IsAstray (g : Claimed) (number : ℕ) (r : Row) (e : Effect) (next : ℕ) (error : TypingError) : Type 0 where
  pub at : ℕ
  pub counts : Counts
  pub is : error ≡ errors.Unmatched number at
  pub edge : (Contains (targets_for g.code.switches (flow_in e)) at × (counts ≡ jumping g.bases r e))
      ⊎ ((falls_for (flow_in e) ≡ true) × (at ≡ next) × (counts ≡ falling_on g.bases r e))
  pub astray : typing_of g.bases g.rows at ≡ Some counts → ⊥

-- a row passes, and each of its edges leads to a row with the very counts
pub record IsSound (g : Claimed) (r : Row) : Type 0 where
  pub op : Op
  pub passes : Passes (coded g.code) g.chunk r.at (counts_of g.bases r) op
  pub closed : (b : ℕ) (d : Counts) → Edge (coded g.code) op r.at (counts_of g.bases r) b d → typing_of g.bases g.rows b ≡ Some d
  pub shallow : r.operands ≤ g.most

-- each row is sound
abbrev pub AreSound : Claimed → Type 0
AreSound g = (k : ℕ) (r : Row) → slice_get g.rows k ≡ Some r → IsSound g r

-- the refusal of a row whose instruction lacks this
abbrev pub lack_named : ℕ → Lack → TypingError
lack_named row (lacks.Capabilities absent) = errors.MissingCaps row absent
lack_named row (lacks.Operands need) = errors.Underflow row need
lack_named row lacks.Iterators = errors.IteratorUnderflow row
lack_named row lacks.Handlers = errors.HandlerUnderflow row
lack_named row (lacks.Reserve need have) = errors.SinksBelowHandler row need have
