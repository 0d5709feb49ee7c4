use Rattle.grain_pools.proofs.strings.BadTableDisplay.fmt.Goals as goal

pub returns-in-SpanOutOfRange-clause-writes : goal.returns-in-SpanOutOfRange-clause-writes
returns-in-SpanOutOfRange-clause-writes g c = let is = c.in-SpanOutOfRange.is in rw is c.write-in-SpanOutOfRange.ensures.writes

pub returns-in-NotUtf8-clause-writes : goal.returns-in-NotUtf8-clause-writes
returns-in-NotUtf8-clause-writes g c = let is = c.in-NotUtf8.is in rw is c.write-in-NotUtf8.ensures.writes
