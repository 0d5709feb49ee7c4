use Rattle.std.proofs.Common.{◌≡◌, ◌++◌, map}
use Rattle.grain_pools.specs.Dispatch.{arms, listed}
use Rattle.grain_pools.proofs.text.switch.cases_of.Given as goal

-- the cases so far, and those that are left
abbrev pub invariant-loop-case : goal.invariant-loop-case
invariant-loop-case l =
    l.listed.items ++ map (λ c. c.1) l.case-iterator ≡ map (λ c. c.1) (listed (arms l.switch).cases)
