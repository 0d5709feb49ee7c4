use Rattle.std.proofs.Common.{◌<◌, ℕ, get_or}
use Rattle.grain_rules.specs.Code.{coded}
use Rattle.grain_rules.specs.Typing.{IsInChunk}
use Rattle.grain_explain.specs.Scenes.{seen}
use Rattle.grain_explain.proofs.scene.Scene.check_targets.Given as goal

abbrev pub invariant-loop-target : goal.invariant-loop-target
invariant-loop-target g l = (k d : ℕ) → k < l.target-index → IsInChunk (coded (seen g.P.Read.facts g.P.Read.leads l.self).code) l.self.chunk.now (get_or l.targets k d)
