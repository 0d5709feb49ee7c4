use Rattle.std.proofs.Common.{◌∙◌}
use Rattle.grain_pools.proofs.Tables.{is_ok-text}
use Rattle.grain_pools.proofs.strings.is_text.Goals as goal

pub returns : goal.returns
returns c = c.is_ok.ensures.value ∙ is_ok-text _ _ c.args.bytes.now c.from_utf8.result c.from_utf8.ensures.cases
