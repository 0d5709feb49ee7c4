use Rattle.std.proofs.Common.{refl}
use Rattle.grain_explain.specs.Scenes.{seen}
use Rattle.grain_explain.proofs.scene.Scene.check_frame.Goals as goal

pub returns-clause-framed : goal.returns-clause-framed
returns-clause-framed g c = c.check_frame.ensures.framed (seen g.P.Read.facts g.P.Read.leads c.args.self.now).code refl

pub returns-clause-err : goal.returns-clause-err
returns-clause-err g c = c.check_frame.ensures.err (seen g.P.Read.facts g.P.Read.leads c.args.self.now).code refl
