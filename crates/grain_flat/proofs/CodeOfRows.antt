-- Code beside rows is code beside the chains and switches that these rows are of.
use Rattle.std.proofs.Common.{◌≡◌, ◌<◌, ◌^◌, ℕ, List, length}
use Rattle.grain_rules.specs.Code.{bytecode_beside}
use Rattle.grain_pools.specs.declared.chain.Chain.{Chain}
use Rattle.grain_flat.specs.Flat.{AreChains, IsFlat, code_with}
use Rattle.grain_flat.specs.RowFacts.{facts_by_rows, leads_of}
use Rattle.grain_flat.specs.declared.records.CPools.{CPools}
use Rattle.grain_flat.proofs.ChainRows.{chains_are_by_rows}
use Rattle.grain_flat.proofs.FlatAlike.{AreOf}
use Rattle.grain_flat.proofs.Flatness.{are_by_rows, pooled, switches_by_rows}
use Rattle.grain_flat.proofs.SwitchFacts.{cases_are_by_rows, leads_are_by_rows}

-- the chains and switches of the rows
pub are_of_rows : (p : CPools) (flat : IsFlat p) (small : length p.steps.now < 2 ^ 63) → AreOf p (pooled p flat small).chains (switches_by_rows p.switches.now p.cases.now p.ranges.now)
are_of_rows p flat small = record {
  chains_are = (pooled p flat small).chains_are;
  switches_are = are_by_rows p.switches.now p.cases.now p.ranges.now flat.case_counts flat.range_counts;
}

pub code_by_rows : (caps : ℕ) (bytes : List ℕ) (p : CPools) (cs : List Chain) → AreChains p.chains.now p.steps.now cs
    → bytecode_beside caps (facts_by_rows p) (leads_of p) bytes ≡ code_with caps bytes p cs (switches_by_rows p.switches.now p.cases.now p.ranges.now)
code_by_rows caps bytes p cs are =
    let chains = chains_are_by_rows p.chains.now p.steps.now cs are in
    let cases = cases_are_by_rows p.switches.now p.cases.now p.ranges.now in
    let leads = leads_are_by_rows p.switches.now p.cases.now p.ranges.now in
    λ k. bytecode_beside caps (record (facts_by_rows p) { chains = chains k; cases = cases k }) (leads k) bytes
