use Rattle.std.proofs.Common.{◌∙◌}
use Rattle.grain_base.proofs.KnownCaps.{all_caps}
use Rattle.rhai_compile.proofs.building.all_capabilities.Goals as goal

pub returns : goal.returns
returns c = c.all.ensures tt ∙ all_caps
