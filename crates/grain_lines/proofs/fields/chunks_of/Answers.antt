use Rattle.grain_lines.specs.Words.{words}
use Rattle.grain_lines.proofs.FieldLaws.{spell_chunks}
use Rattle.grain_lines.proofs.fields.chunks_of.Goals as goal

pub returns-in-Err-clause-memory : goal.returns-in-Err-clause-memory
returns-in-Err-clause-memory c = spell_chunks (words c.args.fields.now) c.in-Err.ensures.memory c.if-are_chunks.ensures
