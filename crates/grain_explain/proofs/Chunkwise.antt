-- From one chunk to the next.
use Rattle.std.proofs.Common.{◌≡◌, ◌↔◌, ℕ, ◌+◌, ◌<◌, List, [], ◌∷◌, ◌++◌, length, get_or, take, Option, None, Some, refl, sym, subst}
use Rattle.std.specs.List.{AllZip}
use Rattle.std.specs.Prelude.{MatchOption}
use Rattle.std.proofs.lemmas.List.{take_more}
use Rattle.std.proofs.lemmas.Option.{none-some}
use Rattle.grain_code.specs.Span.{Span}
use Rattle.grain_rules.specs.Accepted.{ChunkPasses}
use Rattle.grain_rules.specs.Code.{Bytecode}
use Rattle.grain_rules.proofs.Exact.{no_flaw}
use Rattle.grain_explain.specs.Explaining.{IsExact, IsExplained, IsTypedBy}
use Rattle.grain_explain.specs.Ways.{IsShownRefusal}
use Rattle.grain_explain.specs.declared.refusal.ExplainedChunk.{ExplainedChunk}
use Rattle.grain_explain.specs.declared.refusal.Refusal.{Refusal}
use Rattle.grain_explain.specs.declared.row.LinkedBase.{LinkedBase}
use Rattle.grain_explain.specs.declared.row.Row.{Row}
use Rattle.grain_explain.proofs.Certified.{chunk_passes}
use Rattle.grain_explain.proofs.Sceneries.{zip_push}

-- one more chunk
pub chunk_more : {Y : Type 0} (R : Span → Y → Type 0) (chunks : List Span) (ys : List Y) (i : ℕ) (x : Span) (y : Y) → i < length chunks → x ≡ get_or chunks i x
    → AllZip R (take i chunks) ys → R x y → AllZip R (take (i + 1) chunks) (ys ++ y ∷ [])
chunk_more {Y} R chunks ys i x y l e h r =
    subst (λ (zs : List Span). AllZip R zs (ys ++ y ∷ [])) (sym (take_more chunks i x l)) (zip_push R (take i chunks) ys (get_or chunks i x) y h (subst (λ (z : Span). R z y) e r))

exact_by : (code : Bytecode) (chunk : Span) (bases : List LinkedBase) (rows : List Row) (o : Option Refusal) → MatchOption o (IsTypedBy code chunk bases rows) (IsShownRefusal code chunk bases) → (o ≡ None) ↔ ChunkPasses code chunk
exact_by code chunk bases rows None h = (λ e. chunk_passes code chunk bases rows h.certificate, λ p. refl)
exact_by code chunk bases rows (Some r) h = (λ e. absurd (none-some r (sym e)), λ p. absurd (no_flaw code chunk r.error p h.flaw))

pub all_exact : (code : Bytecode) (chunks : List Span) (xs : List ExplainedChunk) → AllZip (IsExplained code) chunks xs → AllZip (IsExact code) chunks xs
all_exact code [] [] h = tt
all_exact code [] (x ∷ xs) h = absurd h
all_exact code (c ∷ cs) [] h = absurd h
all_exact code (c ∷ cs) (x ∷ xs) h = (exact_by code c x.bases.items x.rows.items x.refusal h.0.explains, all_exact code cs xs h.1)
