-- A chunk of a program that is explained.
use Rattle.std.specs.Prelude.{◌≡◌, ℕ, Some, slice_get}
use Rattle.grain_code.specs.Span.{Span}
use Rattle.grain_explain.specs.declared.refusal.ExplainedChunk.{ExplainedChunk}
use Rattle.grain_flat.specs.Explaining.{ExplainsChunk}
use Rattle.grain_flat.specs.declared.records.CProgram.{CProgram}

-- the chunk with this index is explained so, with chains and switches of this flat form beside the code
pub record ExplainsAt (caps : ℕ) (program : CProgram) (index : ℕ) (x : ExplainedChunk) : Type 0 where
  pub chunk : Span
  pub is : slice_get program.chunks.now index ≡ Some chunk
  pub explains : ExplainsChunk caps program.code.now chunk program.pools x
