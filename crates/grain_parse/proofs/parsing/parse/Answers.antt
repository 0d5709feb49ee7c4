use Rattle.std.specs.Str.Lines.{lines}
use Rattle.grain_parse.proofs.parsing.parse.Goals as goal

pub returns-in-Ok : goal.returns-in-Ok
returns-in-Ok c = c.finish.ensures.errors (lines c.args.text.now)
