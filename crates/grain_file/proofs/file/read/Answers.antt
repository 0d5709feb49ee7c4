use Rattle.std.proofs.Common.{arith}
use Rattle.grain_file.proofs.Whole.{found, only, exact}
use Rattle.grain_file.proofs.file.read.Goals as goal

pub returns-clause-found : goal.returns-clause-found
returns-clause-found c = found c.args.limits.now c.args.bytes.now c.read_whole.result (omega arith) (omega arith) (record { each = λ i. omega (arith, c.type_inv.bytes i) }) c.read_whole.ensures

pub returns-clause-only : goal.returns-clause-only
returns-clause-only c = only c.args.limits.now c.args.bytes.now c.read_whole.result c.read_whole.ensures

pub returns-clause-exact : goal.returns-clause-exact
returns-clause-exact c = exact c.args.limits.now c.args.bytes.now c.read_whole.result (record { each = λ i. omega (arith, c.type_inv.bytes i) }) c.read_whole.ensures
