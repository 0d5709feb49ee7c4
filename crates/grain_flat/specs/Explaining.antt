-- An explained chunk as records of C.
use Rattle.std.specs.Prelude.{◌≡◌, ℕ, zero, suc, List, [], ◌++◌, map, reverse, zip, length, Option, Some, None}
use Rattle.std.specs.Option.{unwrap_or}
use Rattle.grain_rules.specs.Accepted.{AreIndexed}
use Rattle.grain_pools.specs.Dispatch.{Arms}
use Rattle.grain_explain.specs.Explaining.{IsExact, IsExplained}
use Rattle.grain_code.specs.Span.{Span}
use Rattle.grain_explain.specs.declared.refusal.ExplainError.{ExplainError}
use Rattle.grain_explain.specs.declared.refusal.ExplainError.TheVariants.{BadCode}
use Rattle.grain_explain.specs.declared.refusal.ExplainedChunk.{ExplainedChunk}
use Rattle.grain_explain.specs.declared.refusal.Refusal.{Refusal}
use Rattle.grain_explain.specs.declared.row.LinkedBase.{LinkedBase}
use Rattle.grain_explain.specs.declared.row.Row.{Row}
use Rattle.grain_pools.specs.declared.chain.Chain.{Chain}
use Rattle.grain_flat.specs.Listing.{filled}
use Rattle.grain_flat.specs.Flat.{AreChains, AreSwitches, code_with}
use Rattle.grain_flat.specs.declared.explaining.ExplanationRows.{ExplanationRows}
use Rattle.grain_flat.specs.declared.kinds.TheConstants.{NO_ADDRESS, NO_BASE}
use Rattle.grain_flat.specs.declared.records.CBase.{CBase}
use Rattle.grain_flat.specs.declared.records.CExplanation.{CExplanation}
use Rattle.grain_flat.specs.declared.records.CPools.{CPools}
use Rattle.grain_flat.specs.declared.records.CRow.{CRow}

-- the chunk is explained so, with chains and switches of this flat form beside its code
pub record ExplainsChunk (caps : ℕ) (bytes : List ℕ) (chunk : Span) (p : CPools) (x : ExplainedChunk) : Type 0 where
  pub chains : List Chain
  pub switches : List Arms
  pub chains_are : AreChains p.chains.now p.steps.now chains
  pub switches_are : AreSwitches p.switches.now p.cases.now p.ranges.now switches
  pub explained : IsExplained (code_with caps bytes p chains switches) chunk x
  pub exact : IsExact (code_with caps bytes p chains switches) chunk x

-- some chains and switches have this flat form
pub record Beside (p : CPools) : Type 0 where
  pub chains : List Chain
  pub switches : List Arms
  pub chains_are : AreChains p.chains.now p.steps.now chains
  pub switches_are : AreSwitches p.switches.now p.cases.now p.ranges.now switches

-- the code, beside these, is whole instructions whose indices are in bounds
abbrev pub IsIndexedBeside : ℕ → List ℕ → (p : CPools) → Beside p → Type 0
IsIndexedBeside caps bytes p beside = AreIndexed (code_with caps bytes p beside.chains beside.switches).setting bytes

-- what is named bad code is such
abbrev pub IsFlatCause : ℕ → List ℕ → CPools → ExplainError → Type 0
IsFlatCause caps bytes p e = e ≡ BadCode → (beside : Beside p) × (IsIndexedBeside caps bytes p beside → ⊥)

-- the place of the first base of a list, or that there is none
abbrev pub list_place : ℕ → ℕ
list_place zero = NO_BASE
list_place (suc k) = k

-- what stands at an address, and from where an edge leads there
abbrev pub row_record : Row × Option ℕ → CRow
row_record p = record {
  at = p.0.at;
  operands = p.0.operands;
  iterators = p.0.iterators;
  from = unwrap_or p.1 NO_ADDRESS;
  base = list_place p.0.bases;
}

abbrev pub path_row : Row → CRow
path_row r = row_record (r, None)

abbrev pub base_row : LinkedBase → CBase
base_row b = record { operands = b.operands; iterators = b.iterators; next = list_place b.next }

abbrev pub way_of : Option Refusal → List Row
way_of None = []
way_of (Some r) = r.way.items

abbrev pub other_of : Option Refusal → List Row
other_of None = []
other_of (Some r) = r.other.items

-- the rows, and then those of the paths, each from the entry on
abbrev pub row_records : ExplainedChunk → List CRow
row_records x = map row_record (zip x.rows.items x.origins.items) ++ map path_row (reverse (way_of x.refusal)) ++ map path_row (reverse (other_of x.refusal))

abbrev pub base_records : ExplainedChunk → List CBase
base_records x = map base_row x.bases.items

abbrev pub visited_count : ExplainedChunk → ℕ
visited_count x = length (zip x.rows.items x.origins.items)

-- these are the records of the explained chunk
pub record IsMadeOfRows (x : ExplainedChunk) (made : ExplanationRows) : Type 0 where
  pub rows_are : made.rows.items ≡ row_records x
  pub bases_are : made.bases.items ≡ base_records x
  pub visited_is : made.visited ≡ visited_count x
  pub path_is : made.path ≡ length (way_of x.refusal)
  pub other_is : made.other ≡ length (other_of x.refusal)

-- it is written in this room, as far as the room has places
pub record IsWrittenIn (x : ExplainedChunk) (rows written : List CRow) (bases put : List CBase) (counts : CExplanation) : Type 0 where
  pub rows_are : written ≡ filled (row_records x) rows
  pub bases_are : put ≡ filled (base_records x) bases
  pub visited_is : counts.rows ≡ visited_count x
  pub path_is : counts.path ≡ length (way_of x.refusal)
  pub other_is : counts.other ≡ length (other_of x.refusal)
  pub bases_is : counts.bases ≡ length (base_records x)
