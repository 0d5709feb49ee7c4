use Rattle.grain_explain.proofs.SharedLists.{list_headed}
use Rattle.grain_explain.proofs.lists.first_base.Goals as goal

pub returns : goal.returns
returns c = list_headed c.args.bases.now c.args.list c.requires.linked c.requires.listed c.if-list-eq0.false
