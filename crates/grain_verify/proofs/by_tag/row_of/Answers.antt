use Rattle.grain_verify.proofs.TagTable.{told_by, sound_at}
use Rattle.grain_verify.proofs.by_tag.row_of.Goals as goal

pub returns : goal.returns
returns c =
    let row = c.tag_row.result.now in
    let sound = sound_at c.args.tag row c.ranges.tag.fits c.tag_row.ensures in
    record { tells = λ op e. told_by c.args.tag row op c.tag_row.ensures e; there = sound.0; by_one = sound.1 }
