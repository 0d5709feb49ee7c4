-- What a run reads and writes. The bytes that a source has left and the bytes that a sink has taken
-- are given before the run and after it. If a source or a sink doesn't tell them, nothing is said
-- of them.
use Rattle.std.specs.Prelude.{◌≡◌, ◌≢◌, ℕ, ◌-◌, ◌^◌, ◌<◌, ◌≤◌, ◌⊎◌, List, ◌++◌, length, Option}
use Rattle.std.specs.Prelude.{count_by}
use Rattle.std.specs.Io.KnownBytes.{Appends, Consumes, IsAtEnd}
use Rattle.grain_lines.specs.Lines.{case_lines, complete_cases}
use Rattle.grain_lines.specs.LineCase.{is_bad}
use Rattle.grain_lines.specs.Verdict.{IsVerdictText}
use Rattle.grain_lines.specs.Outcome.{saturated}
use Rattle.grain_lines.specs.declared.outcome.Summary.{Summary}

-- all was read, a verdict text of its cases was written and nothing else, and the summary counts
-- these cases
pub record AnswersAll (left left' taken taken' : Option (List ℕ)) (summary : Summary) : Type 0 where
  pub input : List ℕ
  pub text : List ℕ
  pub read : Consumes left left' input
  pub ended : IsAtEnd left'
  pub verdicts : IsVerdictText (case_lines input) text
  pub written : Appends taken taken' text
  pub cases : summary.cases ≡ saturated (length (case_lines input))
  pub bad : summary.bad ≡ saturated (count_by is_bad (case_lines input))

-- a verdict text of the complete cases among the bytes that were read was written, and nothing else
pub record AnswersComplete (left left' taken taken' : Option (List ℕ)) : Type 0 where
  pub input : List ℕ
  pub text : List ℕ
  pub read : Consumes left left' input
  pub verdicts : IsVerdictText (complete_cases input) text
  pub written : Appends taken taken' text

-- a verdict text of the first of these cases was written, and nothing else
pub record AnswersFirst (left left' taken taken' : Option (List ℕ)) : Type 0 where
  pub input : List ℕ
  pub cases : List (List ℕ)
  pub later : List (List ℕ)
  pub text : List ℕ
  pub read : Consumes left left' input
  pub first : complete_cases input ≡ cases ++ later
  pub verdicts : IsVerdictText cases text
  pub written : Appends taken taken' text

-- these cases are due once this input has been read: the complete ones, and the last line too once
-- the source has ended
abbrev pub AreReadCases : List ℕ → Option (List ℕ) → List (List ℕ) → Type 0
AreReadCases input left cases = (cases ≡ complete_cases input) ⊎ (IsAtEnd left × (cases ≡ case_lines input))

-- a front of a verdict text of the cases that were due was written, but not all of it, and nothing
-- else
pub record AnswersFront (left left' taken taken' : Option (List ℕ)) : Type 0 where
  pub input : List ℕ
  pub cases : List (List ℕ)
  pub front : List ℕ
  pub back : List ℕ
  pub read : Consumes left left' input
  pub due : AreReadCases input left' cases
  pub verdicts : IsVerdictText cases (front ++ back)
  pub written : Appends taken taken' front
  pub cut : 0 < length back

-- the source's mark changed, or as many bytes were read as a run makes reads at most
abbrev pub ReadFailed : Option (List ℕ) → Option (List ℕ) → ℕ → ℕ → Type 0
ReadFailed left left' mark mark' =
    (mark' ≢ mark)
    ⊎ ((input : List ℕ) × Consumes left left' input × (2 ^ 64 - 1 ≤ length input))
