-- The count of cases, and the status of the process.
use Rattle.std.specs.Prelude.{◌≡◌, ℕ, ◌+◌, ◌-◌, ◌^◌, ◌==◌, if◌then◌else◌, min, Result, Ok, Err}
use Rattle.grain_lines.specs.declared.outcome.Summary.{Summary}
use Rattle.grain_lines.specs.declared.outcome.RunError.{RunError}
use Rattle.grain_lines.specs.declared.outcome.RunError.TheVariants.{Read, Write, OutOfMemory}

-- a number as a count gives it that stays at the greatest value
abbrev pub saturated : ℕ → ℕ
saturated number = min number (2 ^ 64 - 1)

-- a count grows by the number of cases
abbrev pub CountsOn : ℕ → ℕ → ℕ → Type 0
CountsOn old new more = (total : ℕ) → old ≡ saturated total → new ≡ saturated (total + more)

-- 0 if every case had a form, 2 if one had none; 3 to 5 where the run stopped before the end
abbrev pub exit_status : Result Summary RunError → ℕ
exit_status (Ok summary) = if summary.bad == 0 then 0 else 2
exit_status (Err Read) = 3
exit_status (Err Write) = 4
exit_status (Err OutOfMemory) = 5
