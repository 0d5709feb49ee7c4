-- How the verdicts on cases, and the count of the cases, grow.
use Rattle.std.specs.Prelude.{◌≡◌, ℕ, length, List, [], ◌++◌, map, filter}
use Rattle.std.specs.Prelude.{count_by}
use Rattle.std.specs.Str.Lines.{strip_carriage_return}
use Rattle.grain_lines.specs.Lines.{AreLines, is_case}
use Rattle.grain_lines.specs.LineCase.{is_bad}
use Rattle.grain_lines.specs.Verdict.{IsVerdictText}
use Rattle.grain_lines.specs.Outcome.{CountsOn}
use Rattle.grain_lines.specs.declared.outcome.Summary.{Summary}

-- a verdict text, and the count of all cases
pub record Written : Type 0 where
  pub text : List ℕ
  pub summary : Summary

-- before the first case
abbrev pub none_written : Written
none_written = record { text = []; summary = record { cases = 0; bad = 0 } }

-- a verdict text of the cases comes behind the old text, and they are counted
pub record Answers (cases : List (List ℕ)) (old new : Written) : Type 0 where
  pub added : List ℕ
  pub verdicts : IsVerdictText cases added
  pub text : new.text ≡ old.text ++ added
  pub counted : CountsOn old.summary.cases new.summary.cases (length cases)
  pub counted_bad : CountsOn old.summary.bad new.summary.bad (count_by is_bad cases)

-- the lines that are complete once the bytes have come behind what was carried are answered, and the
-- rest is carried
pub record AnswersBytes (carry bytes new_carry : List ℕ) (old new : Written) : Type 0 where
  pub lines : List (List ℕ)
  pub cut : AreLines (carry ++ bytes) lines new_carry
  pub answers : Answers (filter is_case (map strip_carriage_return lines)) old new
