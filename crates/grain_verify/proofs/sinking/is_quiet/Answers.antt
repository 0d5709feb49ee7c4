use Rattle.grain_verify.proofs.QuietTags.{quiet_by}
use Rattle.grain_verify.proofs.sinking.is_quiet.Goals as goal

pub returns : goal.returns
returns c op is = quiet_by c.args.tag c.tag_row.result.now op c.tag_row.ensures is
