-- Where the parts of a flat form begin, as they are kept beside it.
use Rattle.std.specs.Prelude.{◌≡◌, ℕ, List, ◌++◌, map}
use Rattle.std.specs.Option.{option_to_list}
use Rattle.grain_flat.specs.Flat.{IsFlat}
use Rattle.grain_flat.specs.RowFacts.{part_begins}
use Rattle.grain_flat.specs.declared.records.CCase.{CCase}
use Rattle.grain_flat.specs.declared.records.CChain.{CChain}
use Rattle.grain_flat.specs.declared.records.CPools.{CPools}
use Rattle.grain_flat.specs.declared.records.CSwitch.{CSwitch}
use Rattle.grain_flat.specs.declared.row_reads.ArmsBegin.{ArmsBegin}
use Rattle.grain_flat.specs.declared.row_reads.RowTargets.{RowTargets}

-- there the steps of each chain begin, and the arms of each switch
pub record AreTables (p : CPools) (steps : List ℕ) (arms : List ArmsBegin) : Type 0 where
  pub flat : IsFlat p
  pub steps_are : steps ≡ part_begins (λ (c : CChain). c.steps) 0 p.chains.now
  pub cases_are : map (λ (b : ArmsBegin). b.cases) arms ≡ part_begins (λ (s : CSwitch). s.cases) 0 p.switches.now
  pub ranges_are : map (λ (b : ArmsBegin). b.ranges) arms ≡ part_begins (λ (s : CSwitch). s.ranges) 0 p.switches.now

-- the targets that are left
abbrev pub left_of : RowTargets → List ℕ
left_of t = map (λ (c : CCase). c.target) t.cases.now ++ t.ranges.now ++ option_to_list t.otherwise
