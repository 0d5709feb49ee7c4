use Rattle.std.proofs.Common.{refl}
use Rattle.rhai_emit.proofs.LoopFacts.{stands_armed}
use Rattle.rhai_emit.proofs.emitter.Emitter.arm.Goals as goal

pub returns-clause-stands : goal.returns-clause-stands
returns-clause-stands c = stands_armed c.args.self.now _ c.in_ok-arm.ensures.operands c.in_ok-arm.ensures.level c.in_ok-arm.ensures.labels refl c.requires.stands
