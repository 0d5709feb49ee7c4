use Rattle.std.proofs.Common.{map, take, drop}
use Rattle.grain_format.specs.Cases.{case_view}
use Rattle.grain_format.proofs.GatheredCases.{Gathering}
use Rattle.grain_format.proofs.cases.gather.Given as goal

abbrev pub invariant-loop-case : goal.invariant-loop-case
invariant-loop-case l = Gathering l.constants (map case_view l.cases) (map case_view (take l.case-index l.cases)) (map case_view (drop l.case-index l.cases)) l.gathered
