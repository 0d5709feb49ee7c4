use Rattle.std.proofs.Common.{take}
use Rattle.std.specs.List.{AllZip}
use Rattle.grain_rules.specs.Code.{bytecode_beside}
use Rattle.grain_explain.specs.Explaining.{IsExplained}
use Rattle.grain_explain.proofs.explain.explain_chunks.Given as goal

abbrev pub invariant-loop-chunk : goal.invariant-loop-chunk
invariant-loop-chunk g l = AllZip (IsExplained (bytecode_beside l.caps.0 (g.P.Read.facts l.pools) (g.P.Read.leads l.pools) l.code)) (take l.chunk-index l.chunks) l.explained.items
