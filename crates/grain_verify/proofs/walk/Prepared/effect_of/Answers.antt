use Rattle.std.proofs.Common.{◌∷◌, subst}
use Rattle.grain_code.specs.declared.op.Op.{Op}
use Rattle.grain_code.proofs.FieldBytes.{same_instruction}
use Rattle.grain_verify.specs.TagRows.{IsEffectIn}
use Rattle.grain_verify.specs.Walk.{Walked}
use Rattle.grain_verify.proofs.walk.Prepared.effect_of.Goals as goal

pub returns : goal.returns
returns g c op is =
    let i = c.args.instruction.now in
    let of = c.of.ensures in
    let facts = g.P.Read.facts c.self.inside.pools.now in
    subst (λ (p : Walked). IsEffectIn p.code.setting.facts c.of.result op) c.self.view_is
    (subst (λ (o : Op). IsEffectIn facts c.of.result o) (same_instruction (i.tag ∷ i.fields.now) c.in-Some-op.op op c.in-Some-op.ensures.found is)
    (record { operands = of.operands; asks = of.asks; flow_is = of.flow }))
