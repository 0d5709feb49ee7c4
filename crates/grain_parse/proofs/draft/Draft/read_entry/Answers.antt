use Rattle.std.proofs.Common.{[], sym}
use Rattle.std.proofs.lemmas.List.{append-nil}
use Rattle.grain_parse.proofs.draft.Draft.read_entry.Goals as goal

pub returns-in_ok-push-in-OpAssignments : goal.returns-in_ok-push-in-OpAssignments
returns-in_ok-push-in-OpAssignments c = ([], sym (append-nil c.args.self.now.code.items))
