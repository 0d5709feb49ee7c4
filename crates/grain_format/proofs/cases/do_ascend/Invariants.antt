use Rattle.std.proofs.Common.{◌≡◌, map, drop}
use Rattle.grain_format.specs.Cases.{ascend_from, case_view}
use Rattle.grain_format.proofs.cases.do_ascend.Given as goal

abbrev pub invariant-loop-case : goal.invariant-loop-case
invariant-loop-case l = ascend_from 0 (map case_view l.cases) ≡ ascend_from l.least (map case_view (drop l.case-index l.cases))
