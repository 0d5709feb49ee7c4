-- How the walk refuses an operation that sinks below the base of the last handler.
use Rattle.std.specs.Prelude.{◌≡◌, ℕ, false}
use Rattle.grain_code.specs.declared.op.Op.{Op}
use Rattle.grain_rules.specs.Counts.{Base}
use Rattle.grain_rules.specs.Sinking.{FallsShortOf}
use Rattle.grain_rules.specs.Rows.{is_quiet}
use Rattle.grain_rules.specs.declared.error.VerifyError.{VerifyError}
use Rattle.grain_rules.specs.declared.error.VerifyError.TheVariants as errors

-- it isn't quiet, and what it leaves falls short of the base
abbrev pub RefusesSinking : Op → ℕ → Base → Base → VerifyError → Type 0
RefusesSinking op at last left (errors.SinksBelowHandler a need have) = (a ≡ at) × (is_quiet op ≡ false) × FallsShortOf last left need have
RefusesSinking op at last left e = ⊥
