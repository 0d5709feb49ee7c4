use Rattle.std.proofs.Common.{◌≡◌, drop}
use Rattle.grain_pools.specs.Names.{first_flaw, flaw_from}
use Rattle.grain_pools.proofs.strings.check.Given as goal

-- what is left to read decides
abbrev pub invariant-loop-start : goal.invariant-loop-start
invariant-loop-start l = first_flaw l.blob l.fn.starts ≡ flaw_from l.blob l.from (drop l.start-index l.rest)
