use Rattle.std.proofs.Common.{◌≡◌, ◌<◌, length}
use Rattle.grain_lines.proofs.RunLaws.{Reading}
use Rattle.grain_lines.proofs.driver.answer_all.Given as goal

abbrev pub invariant-reading : goal.invariant-reading
invariant-reading g l = record {
  so_far : Reading (g.S.Source.remaining l.initial.reader) (g.S.Source.remaining l.reader) (g.K.Sink.taken l.initial.writer) (g.K.Sink.taken l.writer)
      l._turn l.report.carry.items l.report.verdicts;
  room : 0 < length l.buffer;
  source_unmarked : g.S.Source.mark l.reader ≡ g.S.Source.mark l.initial.reader;
  sink_unmarked : g.K.Sink.mark l.writer ≡ g.K.Sink.mark l.initial.writer;
}
