use Rattle.std.proofs.Common.{◌≡◌, ◌<◌, ℕ, drop, get_or}
use Rattle.grain_pools.specs.Names.{first_flaw, flaw_from}
use Rattle.grain_flat.specs.PoolsFlaws.{IsNameCut}
use Rattle.grain_flat.proofs.flat.names_flaw.Given as goal

-- what is left to read decides, and the names before it are cut
abbrev pub invariant-loop-index : goal.invariant-loop-index
invariant-loop-index l = record {
  same : first_flaw l.blob l.fn.starts ≡ flaw_from l.blob l.from (drop l.index l.rest);
  from_is : l.from ≡ get_or l.fn.starts l.index 0;
  earlier : (k : ℕ) → k < l.index → IsNameCut l.blob l.fn.starts k;
}
