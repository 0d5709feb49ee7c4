use Rattle.grain_c.proofs.Tags.{tag_is}
use Rattle.grain_c.proofs.code.grain_proved_instruction.Goals as goal

pub returns-clause-found : goal.returns-clause-found
returns-clause-found c =
    let tag = tag_is c.args.code.now c.args.at c.in-Some.op c.in-Some.ensures.found in
    (c.in-Some.op, c.in-Some.ensures.found, cc (tag, c.width_of.ensures, c.fields_of-fields.ensures.fields, c.fields_of-fields.ensures.width))
