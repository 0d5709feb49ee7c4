use Rattle.std.proofs.Common.{◌≡◌, map, drop}
use Rattle.grain_format.specs.Cases.{are_there, case_view}
use Rattle.grain_format.proofs.cases.are_there.Given as goal

abbrev pub invariant-loop-case : goal.invariant-loop-case
invariant-loop-case l = are_there l.constants (map case_view l.cases) ≡ are_there l.constants (map case_view (drop l.case-index l.cases))
