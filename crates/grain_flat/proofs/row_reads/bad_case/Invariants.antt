use Rattle.std.proofs.Common.{◌≡◌, drop, map}
use Rattle.grain_pools.specs.Dispatch.{first_past}
use Rattle.grain_flat.specs.declared.records.CCase.{CCase}
use Rattle.grain_flat.proofs.row_reads.bad_case.Given as goal

-- what is left to read decides
abbrev pub invariant-loop-case : goal.invariant-loop-case
invariant-loop-case l =
    first_past l.consts (map (λ (c : CCase). c.constant) l.cases) ≡ first_past l.consts (map (λ (c : CCase). c.constant) (drop l.case-index l.cases))
