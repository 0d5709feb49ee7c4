-- A program that declares capabilities which the host lacks: its refusal as a record, and the text of that record.
use Rattle.std.specs.Prelude.{◌≡◌, ◌⊎◌, ℕ, ◌<◌, ◌^◌, ◌++◌, List, codes}
use Rattle.grain_rules.specs.Texts.{four_digits, verify_error_text}
use Rattle.grain_rules.specs.declared.error.VerifyError.{VerifyError}
use Rattle.grain_flat.specs.Answers.{TellsRefusal}
use Rattle.grain_flat.specs.declared.flaws.TheConstants.{DECLARED_CAPS, WHOLE_PROGRAM}
use Rattle.grain_flat.specs.declared.records.CRefusal.{CRefusal}

-- the record: the capabilities that are missing, and those of the host
abbrev pub lack_record : ℕ → ℕ → CRefusal
lack_record missing host = record { flaw = DECLARED_CAPS; chunk = WHOLE_PROGRAM; at = 0; first = missing; second = host }

-- the record, of whichever chunk, says that these are missing
pub record TellsLack (refusal : CRefusal) (missing : ℕ) : Type 0 where
  pub host : ℕ
  pub missing_fits : missing < 2 ^ 16
  pub host_fits : host < 2 ^ 16
  pub record_is : record refusal { chunk = WHOLE_PROGRAM } ≡ lack_record missing host

abbrev pub lack_text : ℕ → List ℕ
lack_text missing = codes "declared-caps missing=" ++ four_digits missing

-- the text of a record: that of the refusal that it encodes, or that the host lacks declared capabilities
abbrev pub IsRefusalText : CRefusal → List ℕ → Type 0
IsRefusalText refusal text =
    ((e : VerifyError) × TellsRefusal refusal e × (text ≡ verify_error_text e))
    ⊎ ((missing : ℕ) × TellsLack refusal missing × (text ≡ lack_text missing))
