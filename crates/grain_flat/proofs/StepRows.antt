-- A row is a step's exactly where one is found for it.
use Rattle.std.proofs.Common.{◌≡◌, ◌≢◌, ◌↔◌, Option, Some, None, IfNone, IfSome, IsTrue, refl}
use Rattle.std.specs.Prelude.{is_some}
use Rattle.grain_pools.specs.declared.chain.Step.{Step}
use Rattle.grain_flat.specs.declared.records.CStep.{CStep}
use Rattle.grain_flat.specs.Flat.{IsStepRow, step_row}

pub found : (o : Option Step) (row : CStep) → IfSome o (λ s. step_row s ≡ row) → IfNone o ((s : Step) → step_row s ≢ row) → IsTrue (is_some o) ↔ IsStepRow row
found None row some none = (λ h. cc, λ h. absurd (none h.step h.is))
found (Some s) row some none = (λ h. record { step = s; is = some }, λ h. refl)
