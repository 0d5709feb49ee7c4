-- What is promised of operations that are complete.
use Rattle.std.specs.Prelude.{◌≡◌, ◌≤◌, ℕ, List, [], get_or, length, map, slice_get, Some}
use Rattle.std.specs.List.{All, Contains}
use Rattle.grain_code.specs.Span.{Span}
use Rattle.grain_code.specs.declared.op.Op.{Op}
use Rattle.grain_pools.specs.declared.chain.Chain.{Chain}
use Rattle.grain_rules.specs.ByIndex.{IsCut, LeadWithin, code_by_index}
use Rattle.grain_rules.specs.Capabilities.{Allows}
use Rattle.grain_rules.specs.Rows.{caps_of}
use Rattle.grain_rules.specs.Setting.{Setting}
use Rattle.grain_rules.specs.Typing.{HasTyping}
use Rattle.grain_builder.specs.Assembled.{targets_of}
use Rattle.grain_builder.specs.Fitting.{HasChains}
use Rattle.grain_builder.specs.declared.resolving.Assembled.{Assembled}

-- wherever these switches lead, the switches of the same indices among others lead too
abbrev pub LeadAmong : List (List ℕ) → List (List ℕ) → Type 0
LeadAmong leads tables = (w l : ℕ) → Contains (get_or leads w []) l → Contains (get_or tables w []) l

-- In each setting that has these chains, and allows what operations ask, with switches that lead nowhere else, each cut has a
-- typing by index within what it declares.
abbrev pub AreTypedCuts : List Op → List Chain → List (List ℕ) → List Span → Type 0
AreTypedCuts ops chains tables cuts =
    (s : Setting) (leads : List (List ℕ)) (j : ℕ) (cut : Span) → HasChains s chains → ((op : Op) → Allows s.caps (caps_of s op)) → LeadAmong leads tables → slice_get cuts j ≡ Some cut → HasTyping (code_by_index s ops leads) cut cut.max_stack

-- There is a chunk, each has a typing by index and lies among the operations, switches lead to operations or behind the last, and
-- each operation has a place.
pub record IsComplete (done : Assembled) : Type 0 where
  pub typed : AreTypedCuts done.ops.items done.chains.items (map targets_of done.tables.items) done.cuts.items
  pub cuts : All (IsCut (length done.ops.items)) done.cuts.items
  pub some : 1 ≤ length done.cuts.items
  pub leads : LeadWithin (length done.ops.items) (map targets_of done.tables.items)
  pub placed : length done.places.items ≡ length done.ops.items
