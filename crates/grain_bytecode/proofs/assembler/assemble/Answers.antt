use Rattle.std.proofs.Common.{ap, ◌∙◌, rules}
use Rattle.std.specs.Prelude.{length}
use Rattle.grain_code.specs.Assembly.{IsAssembly}
use Rattle.grain_code.proofs.OperationPlaces.{stands_there, split_there, length-offsets_from}
use Rattle.grain_bytecode.proofs.Flaws.{flawless}
use Rattle.grain_bytecode.proofs.assembler.assemble.Goals as goal

pub code_of-requires-clause-placed : goal.code_of-requires-clause-placed
code_of-requires-clause-placed c = ap length (c.deref.ensures.value ∙ c.in_ok-offsets.ensures) ∙ length-offsets_from 0 c.args.ops.now

pub returns-in_err-check-clause-always : goal.returns-in_err-check-clause-always
returns-in_err-check-clause-always c can = absurd (flawless c.args.ops.now _ can c.in_err-check.ensures)

pub returns-clause-split : goal.returns-clause-split
returns-clause-split c =
    let is : IsAssembly c.args.ops.now c.in_ok-code.code.items c.in_ok-offsets.offsets.items = search rules in
    split_there c.args.ops.now c.in_ok-code.code.items c.in_ok-offsets.offsets.items is

pub returns-clause-each : goal.returns-clause-each
returns-clause-each c =
    let is : IsAssembly c.args.ops.now c.in_ok-code.code.items c.in_ok-offsets.offsets.items = search rules in
    stands_there c.args.ops.now c.in_ok-code.code.items c.in_ok-offsets.offsets.items is
