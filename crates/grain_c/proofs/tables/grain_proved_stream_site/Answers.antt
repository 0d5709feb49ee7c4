use Rattle.grain_c.proofs.tables.grain_proved_stream_site.Goals as goal

pub returns-in-None-clause-none : goal.returns-in-None-clause-none
returns-in-None-clause-none c site h = let found = (c.in-None.ensures site).1 h in cc
