use Rattle.std.proofs.lemmas.List.{get_or_default}
use Rattle.grain_code.specs.declared.tag_table.TheConstants.{TAG_ROWS}
use Rattle.grain_code.proofs.tag_table.tag_row.Goals as goal

pub returns : goal.returns
returns c row = get_or_default TAG_ROWS c.args.tag _ row c.ranges.tag.fits
