-- The rows and bases of an explained chunk, in room that a caller has.
use Rattle.std.proofs.Common.{◌≡◌, ◌∙◌, List, ap, length}
use Rattle.grain_explain.specs.declared.refusal.ExplainedChunk.{ExplainedChunk}
use Rattle.grain_flat.specs.Explaining.{IsMadeOfRows, IsWrittenIn}
use Rattle.grain_flat.specs.Listing.{filled}
use Rattle.grain_flat.specs.declared.explaining.ExplanationRows.{ExplanationRows}
use Rattle.grain_flat.specs.declared.records.CBase.{CBase}
use Rattle.grain_flat.specs.declared.records.CExplanation.{CExplanation}
use Rattle.grain_flat.specs.declared.records.CRow.{CRow}

pub written_in : (x : ExplainedChunk) (made : ExplanationRows) (rows shown written : List CRow) (bases listed put : List CBase) (counts : CExplanation) → IsMadeOfRows x made → shown ≡ made.rows.items
    → written ≡ filled shown rows → listed ≡ made.bases.items → put ≡ filled listed bases → counts.rows ≡ made.visited → counts.path ≡ made.path → counts.other ≡ made.other
    → counts.bases ≡ length made.bases.items → IsWrittenIn x rows written bases put counts
written_in x made rows shown written bases listed put counts is shown_is written_is listed_is put_is visited path other many = record {
  rows_are = written_is ∙ ap (λ (r : List CRow). filled r rows) (shown_is ∙ is.rows_are);
  bases_are = put_is ∙ ap (λ (b : List CBase). filled b bases) (listed_is ∙ is.bases_are);
  visited_is = visited ∙ is.visited_is;
  path_is = path ∙ is.path_is;
  other_is = other ∙ is.other_is;
  bases_is = many ∙ ap (λ (b : List CBase). length b) is.bases_are;
}
