-- Rows that are a stack typing of a chunk, and what it says of rows that they are refused.
use Rattle.std.specs.Prelude.{◌≡◌, ◌⊎◌, ℕ, ◌+◌, ◌<◌, ◌≤◌, List, Some, length, slice_get}
use Rattle.grain_code.specs.Span.{Span}
use Rattle.grain_code.specs.Split.{FrontEnds, StandsAt}
use Rattle.grain_code.specs.declared.op.Op.{Op}
use Rattle.grain_rules.specs.Accepted.{IsFramed}
use Rattle.grain_rules.specs.Code.{Bytecode, coded}
use Rattle.grain_rules.specs.Counts.{Counts, nothing}
use Rattle.grain_rules.specs.Effects.{Edge}
use Rattle.grain_rules.specs.Layout.{IsBoundary, IsStart}
use Rattle.grain_rules.specs.Typing.{IsTyping}
use Rattle.grain_explain.specs.Lacking.{FindsLacking}
use Rattle.grain_explain.specs.RowView.{AreAscending, AreLinked, AreListed, counts_of, typing_of}
use Rattle.grain_explain.specs.declared.error.TypingError.{TypingError}
use Rattle.grain_explain.specs.declared.error.TypingError.TheVariants as errors
use Rattle.grain_explain.specs.declared.needs.Lack.{Lack}
use Rattle.grain_explain.specs.declared.needs.Lack.TheVariants as lacks
use Rattle.grain_explain.specs.declared.row.LinkedBase.{LinkedBase}
use Rattle.grain_explain.specs.declared.row.Row.{Row}

-- The chunk is framed, the lists that rows name are there, the rows are in the order of their addresses, and they are a stack
-- typing of the chunk within the operands that it declares.
pub record IsCertificate (code : Bytecode) (chunk : Span) (bases : List LinkedBase) (rows : List Row) : Type 0 where
  pub framed : IsFramed code chunk
  pub linked : AreLinked bases
  pub listed : AreListed bases rows
  pub ascending : AreAscending rows
  pub typing : IsTyping (coded code) chunk chunk.max_stack (typing_of bases rows)

-- a row of this number, with its instruction
pub record StandsInRow (code : Bytecode) (rows : List Row) (number : ℕ) (row : Row) (op : Op) : Type 0 where
  pub is : slice_get rows number ≡ Some row
  pub stands : StandsAt code.bytes row.at op

-- the instruction of a row lacks this
pub record RowLacks (code : Bytecode) (bases : List LinkedBase) (rows : List Row) (number : ℕ) (lack : Lack) : Type 0 where
  pub row : Row
  pub op : Op
  pub here : StandsInRow code rows number row op
  pub lacks : FindsLacking code.setting op (counts_of bases row) lack

-- an edge of a row leads to an address whose row, if it has one, has other counts
pub record LeadsAstray (code : Bytecode) (bases : List LinkedBase) (rows : List Row) (number target : ℕ) : Type 0 where
  pub row : Row
  pub op : Op
  pub counts : Counts
  pub here : StandsInRow code rows number row op
  pub edge : Edge (coded code) op row.at (counts_of bases row) target counts
  pub astray : typing_of bases rows target ≡ Some counts → ⊥

-- what a refusal says of the rows
abbrev pub RowsFlaw : Bytecode → Span → List LinkedBase → List Row → TypingError → Type 0
RowsFlaw code chunk bases rows (errors.Undecodable at) = (at < length code.bytes) × FrontEnds code.bytes at
RowsFlaw code chunk bases rows errors.ChunkOutOfRange = (length code.bytes < chunk.end) ⊎ (chunk.end < chunk.entry)
RowsFlaw code chunk bases rows errors.EndsInside = IsBoundary code.bytes chunk.end → ⊥
RowsFlaw code chunk bases rows (errors.Unlinked base) = (here : LinkedBase) × (slice_get bases base ≡ Some here) × (base < here.next)
RowsFlaw code chunk bases rows (errors.NoList row) = (here : Row) × (slice_get rows row ≡ Some here) × (length bases < here.bases)
RowsFlaw code chunk bases rows (errors.NotAscending row) =
    (before : Row) × (here : Row) × (k : ℕ) × (k + 1 ≡ row) × (slice_get rows k ≡ Some before) × (slice_get rows row ≡ Some here) × (here.at ≤ before.at)
RowsFlaw code chunk bases rows (errors.OutsideChunk row) = (here : Row) × (slice_get rows row ≡ Some here) × ((here.at < chunk.entry) ⊎ (chunk.end ≤ here.at))
RowsFlaw code chunk bases rows (errors.NoStart row) = (here : Row) × (slice_get rows row ≡ Some here) × (IsStart code.bytes here.at → ⊥)
RowsFlaw code chunk bases rows errors.BadEntry = typing_of bases rows chunk.entry ≡ Some nothing → ⊥
RowsFlaw code chunk bases rows (errors.TooDeep row) = (here : Row) × (slice_get rows row ≡ Some here) × (chunk.max_stack < here.operands)
RowsFlaw code chunk bases rows (errors.MissingCaps row absent) = RowLacks code bases rows row (lacks.Capabilities absent)
RowsFlaw code chunk bases rows (errors.Underflow row need) = RowLacks code bases rows row (lacks.Operands need)
RowsFlaw code chunk bases rows (errors.IteratorUnderflow row) = RowLacks code bases rows row lacks.Iterators
RowsFlaw code chunk bases rows (errors.HandlerUnderflow row) = RowLacks code bases rows row lacks.Handlers
RowsFlaw code chunk bases rows (errors.SinksBelowHandler row need have) = RowLacks code bases rows row (lacks.Reserve need have)
RowsFlaw code chunk bases rows (errors.Unmatched row target) = LeadsAstray code bases rows row target
