use Rattle.grain_bytecode.proofs.assemble_error.AssembleErrorDisplay.fmt.Goals as goal

pub returns-in-PoolTooLarge-clause-writes : goal.returns-in-PoolTooLarge-clause-writes
returns-in-PoolTooLarge-clause-writes g c = let is = c.in-PoolTooLarge.is in rw is c.write.ensures.writes

pub returns-in-JumpOutOfRange-clause-writes : goal.returns-in-JumpOutOfRange-clause-writes
returns-in-JumpOutOfRange-clause-writes g c = let is = c.in-JumpOutOfRange.is in rw is c.write-in-JumpOutOfRange.ensures.writes

pub returns-in-SwitchTargetOutOfRange-clause-writes : goal.returns-in-SwitchTargetOutOfRange-clause-writes
returns-in-SwitchTargetOutOfRange-clause-writes g c = let is = c.in-SwitchTargetOutOfRange.is in rw is c.write-in-SwitchTargetOutOfRange.ensures.writes
