use Rattle.grain_bytecode.proofs.positions.TableErrorDisplay.fmt.Goals as goal

pub returns-in-PastTheEnd-clause-writes : goal.returns-in-PastTheEnd-clause-writes
returns-in-PastTheEnd-clause-writes g c = let is = c.in-PastTheEnd.is in rw is c.write-in-PastTheEnd.ensures.writes

pub returns-in-ChainCount-clause-writes : goal.returns-in-ChainCount-clause-writes
returns-in-ChainCount-clause-writes g c = rw c.in-ChainCount.is c.write-in-ChainCount.ensures.writes

pub returns-in-WrongProgram-clause-writes : goal.returns-in-WrongProgram-clause-writes
returns-in-WrongProgram-clause-writes g c = let is = c.in-WrongProgram.is in rw is c.write-in-WrongProgram.ensures.writes
