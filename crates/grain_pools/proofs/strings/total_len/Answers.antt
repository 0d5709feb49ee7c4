use Rattle.std.proofs.Common.{◌+◌, arith}
use Rattle.grain_pools.proofs.TableGrowth.{no_name, front_more, front_texts_le}
use Rattle.grain_pools.proofs.strings.total_len.Goals as goal

pub loop-name-preserved : goal.loop-name-preserved
loop-name-preserved c = omega (arith, front_more c.args.names.now c.loop-name.name-index no_name c.loop-name-test.true)

pub returns-in_default-clause-none : goal.returns-in_default-clause-none
returns-in_default-clause-none c =
    omega (arith, c.in_default.ensures, front_more c.args.names.now c.loop-name.name-index no_name c.loop-name-test.true, front_texts_le c.args.names.now (c.loop-name.name-index + 1))

pub returns-in_default-checked_add-clause-none : goal.returns-in_default-checked_add-clause-none
returns-in_default-checked_add-clause-none c =
    omega (arith, c.in_default-checked_add.ensures, front_more c.args.names.now c.loop-name.name-index no_name c.loop-name-test.true, front_texts_le c.args.names.now (c.loop-name.name-index + 1))
