use Rattle.grain_verify.proofs.by_tag.effect_by_tag.Goals as goal

pub returns : goal.returns
returns c op is = c.effect_by_row.ensures.does op is
