use Rattle.grain_format.proofs.NameLists.{end_of_all}
use Rattle.grain_file.proofs.draft.total_len.Goals as goal

pub returns-clause-value : goal.returns-clause-value
returns-clause-value c = rw (c.start_at.ensures.value, c.starts.ensures, c.len.ensures) (end_of_all c.args.names.now)
