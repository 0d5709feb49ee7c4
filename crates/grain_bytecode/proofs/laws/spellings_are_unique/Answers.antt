use Rattle.std.proofs.Common.{sym, ◌∙◌}
use Rattle.grain_bytecode.proofs.laws.spellings_are_unique.Goals as goal

pub returns : goal.returns
returns c bytes other op h h' = h.spelled ∙ sym h'.spelled
