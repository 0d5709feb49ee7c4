use Rattle.grain_code.proofs.Spans.{front_body}
use Rattle.grain_code.proofs.chunk.Chunk.ops.Goals as goal

pub returns-clause-from_the_entry : goal.returns-clause-from_the_entry
returns-clause-from_the_entry c = rw (← front_body c.args.self.now c.args.code.now, ← c.front.ensures, ← c.entry.ensures) c.disassemble_from.ensures.from_there

pub returns-clause-gives : goal.returns-clause-gives
returns-clause-gives c items d = rw (← front_body c.args.self.now c.args.code.now, ← c.front.ensures, ← c.entry.ensures) (c.disassemble_from.ensures.gives items d)
