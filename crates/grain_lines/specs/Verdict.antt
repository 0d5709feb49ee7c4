-- The verdict on a line: what its case is answered.
use Rattle.std.specs.Prelude.{◌≡◌, ℕ, List, [], ◌++◌, codes, decimal, Option, Some, None, Result}
use Rattle.std.specs.Prelude.{Ok, Err, flat_map}
use Rattle.std.specs.List.{AllZip}
use Rattle.grain_rules.specs.Accepted.{AreDeepest, Input, IsAccepted, input_beside}
use Rattle.grain_base.specs.AddressTable.{Entry, LongestFront, site_at}
use Rattle.grain_rules.specs.Flaw.{Flaw}
use Rattle.grain_rules.specs.Setting.{unset}
use Rattle.grain_code.specs.Split.{IsCount}
use Rattle.grain_code.specs.Span.{Span}
use Rattle.grain_base.specs.declared.pos.Site.{Site}
use Rattle.grain_rules.specs.Texts.{verify_error_text}
use Rattle.grain_rules.specs.declared.error.VerifyError.{VerifyError}
use Rattle.grain_rules.specs.declared.error.VerifyError.TheVariants as errors
use Rattle.grain_lines.specs.LineCase.{Asked, asked, code, site, verify}
use Rattle.grain_lines.specs.Lines.{ended_lines}

-- some text of this kind comes behind the old text
pub record Adds (IsKind : List ℕ → Type 0) (old new : List ℕ) : Type 0 where
  pub added : List ℕ
  pub kind : IsKind added
  pub text : new ≡ old ++ added

abbrev pub code_text : Result ℕ ℕ → List ℕ
code_text (Ok count) = codes "whole " ++ decimal count
code_text (Err at) = verify_error_text (errors.Undecodable at)

-- the text is the verdict on code: how many instructions the whole code is, or the address of the
-- first thing that is none
pub record CodeVerdict (bytes text : List ℕ) : Type 0 where
  pub counted : Result ℕ ℕ
  pub count : IsCount bytes counted
  pub is : text ≡ code_text counted

abbrev pub site_text : Option Site → List ℕ
site_text None = codes "none"
site_text (Some found) = codes "site " ++ decimal found.line ++ codes ":" ++ decimal found.column

-- the text is the verdict on an address: the site that the table records for it, if it does
pub record SiteVerdict (table : List ℕ) (address : ℕ) (text : List ℕ) : Type 0 where
  pub entries : List Entry
  pub front : LongestFront table entries
  pub is : text ≡ site_text (site_at entries address)

-- code with chunks, without constants and functions, all pools being empty
abbrev pub program : ℕ → List ℕ → List Span → Input
program caps bytes chunks = input_beside caps [] bytes [] chunks unset.facts []

-- an accepted program has the greatest operand count that each chunk reaches, any other a flaw
abbrev pub IsJudged : Input → Result (List ℕ) VerifyError → Type 0
IsJudged i (Ok numbers) = IsAccepted i × AreDeepest i numbers
IsJudged i (Err flaw) = (IsAccepted i → ⊥) × Flaw i flaw

-- acceptance, with the number of each chunk
abbrev pub accepted_text : List ℕ → List ℕ
accepted_text numbers = codes "accepted" ++ flat_map (λ number. codes " " ++ decimal number) numbers

-- refusal, with what is wrong
abbrev pub refused_text : VerifyError → List ℕ
refused_text flaw = codes "refused " ++ verify_error_text flaw

abbrev pub verify_text : Result (List ℕ) VerifyError → List ℕ
verify_text (Ok numbers) = accepted_text numbers
verify_text (Err flaw) = refused_text flaw

-- the text is the verdict on a program: that it is accepted, with the number of each chunk, or why it
-- is refused
pub record VerifyVerdict (judged : Input) (text : List ℕ) : Type 0 where
  pub found : Result (List ℕ) VerifyError
  pub right : IsJudged judged found
  pub is : text ≡ verify_text found

-- the text answers what is asked
abbrev pub AnswersCase : Asked → List ℕ → Type 0
AnswersCase (code bytes) text = CodeVerdict bytes text
AnswersCase (site table address) text = SiteVerdict table address text
AnswersCase (verify caps bytes chunks) text = VerifyVerdict (program caps bytes chunks) text

-- the text is the verdict on a case, or says of a line without a form that it is a bad case
abbrev pub IsVerdictOn : Option Asked → List ℕ → Type 0
IsVerdictOn None text = text ≡ codes "bad case"
IsVerdictOn (Some question) text = AnswersCase question text

-- the text is a verdict on the line
abbrev pub Verdict : List ℕ → List ℕ → Type 0
Verdict line text = IsVerdictOn (asked line) text

-- the text is a verdict on each case, in their order, each ended by a line feed
pub record IsVerdictText (cases : List (List ℕ)) (text : List ℕ) : Type 0 where
  pub verdicts : List (List ℕ)
  pub each : AllZip Verdict cases verdicts
  pub whole : text ≡ ended_lines verdicts
