use Rattle.std.proofs.Common.{IfSome, subst, sym, arith}
use Rattle.grain_rules.specs.Layout.{IsStart}
use Rattle.grain_verify.specs.Walk.{HasHead, Walked}
use Rattle.grain_verify.proofs.InstructionHeads.{head_there}
use Rattle.grain_verify.proofs.walk.Prepared.head_at.Goals as goal

pub returns-clause-headed : goal.returns-clause-headed
returns-clause-headed g c =
    subst (λ (p : Walked). IfSome c.at.result (HasHead p.code.bytes c.args.at)) c.self.view_is
    (head_there c.self.inside.code.now c.end.result c.args.at c.at.result
    (λ l. subst (λ (p : Walked). IsStart p.code.bytes c.args.at) (sym c.self.view_is) (c.requires.place (omega (arith, l, c.end.ensures))).place)
    c.at.ensures.tag c.at.ensures.width)
