-- What the rows of constants ask.
use Rattle.std.specs.Prelude.{◌≡◌, ℕ, ◌<◌, List, length, Option, Some}
use Rattle.std.specs.List.{AllWithin, HoldsAt}
use Rattle.grain_rules.specs.Accepted.{AllowsConst}
use Rattle.grain_rules.specs.Capabilities.{Allows}
use Rattle.grain_flat.specs.Flat.{asked_row}
use Rattle.grain_flat.specs.declared.records.CConstant.{CConstant}

-- what the row says is asked, if it can be said, is there
pub record RowPasses (caps : ℕ) (row : CConstant) : Type 0 where
  pub passes : (asked : Option ℕ) → asked_row asked ≡ row → AllowsConst caps asked

-- the first row that asks what isn't all there asks this
pub record IsFirstRefusedRow (caps : ℕ) (rows : List CConstant) (asked : ℕ) : Type 0 where
  pub place : ℕ
  pub inside : place < length rows
  pub earlier : AllWithin (RowPasses caps) rows 0 place
  pub here : HoldsAt (λ row. row ≡ asked_row (Some asked)) rows place
  pub refused : Allows caps asked → ⊥
