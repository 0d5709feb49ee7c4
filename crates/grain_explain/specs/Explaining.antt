-- What explaining answers of a chunk and of a program.
use Rattle.std.specs.Prelude.{◌≡◌, ◌≢◌, ◌↔◌, ⊤, ℕ, List, Option, None, Some, MatchOption}
use Rattle.std.specs.List.{All, AllZip, Contains}
use Rattle.grain_code.specs.Span.{Span}
use Rattle.grain_rules.specs.Accepted.{AreIndexed, ChunkPasses}
use Rattle.grain_rules.specs.Code.{Bytecode, coded}
use Rattle.grain_rules.specs.Counts.{Counts}
use Rattle.grain_rules.specs.Typing.{Reached}
use Rattle.grain_explain.specs.Certificate.{IsCertificate}
use Rattle.grain_explain.specs.RowView.{AreAscending, counts_of, typing_of}
use Rattle.grain_explain.specs.Ways.{Follows, IsShownRefusal, first_stop, row_stop}
use Rattle.grain_explain.specs.declared.refusal.ExplainError.{ExplainError}
use Rattle.grain_explain.specs.declared.refusal.ExplainError.TheVariants.{BadCode}
use Rattle.grain_explain.specs.declared.refusal.ExplainedChunk.{ExplainedChunk}
use Rattle.grain_explain.specs.declared.refusal.Refusal.{Refusal}
use Rattle.grain_explain.specs.declared.row.LinkedBase.{LinkedBase}
use Rattle.grain_explain.specs.declared.row.Row.{Row}

-- the row's counts are reached at its address
abbrev pub IsReachedRow : Bytecode → Span → List LinkedBase → Row → Type 0
IsReachedRow code chunk bases r = Reached (coded code) chunk r.at (counts_of bases r)

-- the row is what the chunk begins with, or an edge leads to it from what is reached at this address; the entry alone has no origin
pub record IsOrigin (code : Bytecode) (chunk : Span) (bases : List LinkedBase) (r : Row) (origin : Option ℕ) : Type 0 where
  pub from : MatchOption origin (row_stop bases r ≡ first_stop chunk)
      (λ p. (c : Counts) × Reached (coded code) chunk p c × Follows code chunk (p, c) (row_stop bases r))
  pub none : (origin ≡ None) ↔ (r.at ≡ chunk.entry)

-- each state of the path to a flaw has its row
abbrev pub HasPath : List Row → Option Refusal → Type 0
HasPath rows refusal = MatchOption refusal ⊤ (λ r. All (Contains rows) r.way.items)

-- the rows are a stack typing within the declared stack, and just what is reached
pub record IsTypedBy (code : Bytecode) (chunk : Span) (bases : List LinkedBase) (rows : List Row) : Type 0 where
  pub certificate : IsCertificate code chunk bases rows
  pub just : (at : ℕ) (c : Counts) → Reached (coded code) chunk at c ↔ (typing_of bases rows at ≡ Some c)

-- The rows are in the order of their addresses, so that no address has two. Each row is reached, from where it says; and the rows are a typing and just what is reached, or else the chunk has the flaw
-- that is named, and its ways show it.
pub record IsExplained (code : Bytecode) (chunk : Span) (x : ExplainedChunk) : Type 0 where
  pub ascending : AreAscending x.rows.items
  pub reached : All (IsReachedRow code chunk x.bases.items) x.rows.items
  pub origins : AllZip (IsOrigin code chunk x.bases.items) x.rows.items x.origins.items
  pub path : HasPath x.rows.items x.refusal
  pub explains : MatchOption x.refusal (IsTypedBy code chunk x.bases.items x.rows.items) (IsShownRefusal code chunk x.bases.items)

-- it isn't refused exactly where the chunk passes
abbrev pub IsExact : Bytecode → Span → ExplainedChunk → Type 0
IsExact code chunk x = (x.refusal ≡ None) ↔ ChunkPasses code chunk

-- bad code is named as such, and other code isn't
pub record IsCause (code : Bytecode) (e : ExplainError) : Type 0 where
  pub bad : e ≡ BadCode → AreIndexed code.setting code.bytes → ⊥
  pub good : e ≢ BadCode → AreIndexed code.setting code.bytes
