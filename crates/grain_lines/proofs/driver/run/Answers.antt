use Rattle.grain_lines.proofs.RunLaws.{nothing_read}
use Rattle.grain_lines.proofs.driver.run.Goals as goal

pub returns-in_err-memory-clause-memory : goal.returns-in_err-memory-clause-memory
returns-in_err-memory-clause-memory g c _ = nothing_read (g.S.Source.remaining c.args.reader.now) (g.K.Sink.taken c.args.writer.now)
