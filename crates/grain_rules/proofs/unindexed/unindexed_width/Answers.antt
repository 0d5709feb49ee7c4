use Rattle.std.proofs.Common.{arith, rules}
use Rattle.grain_code.proofs.FieldBytes.{IsBytes}
use Rattle.grain_rules.proofs.WithoutIndex.{stands_unindexed}
use Rattle.grain_rules.proofs.unindexed.unindexed_width.Goals as goal

pub returns-clause-found : goal.returns-clause-found
returns-clause-found c =
    let bytes : IsBytes c.args.code.now = λ i. let byte = c.type_inv.code i in omega arith in
    (stands_unindexed c.args.code.now c.args.at c.tag_row-row.result.now bytes (omega arith) c.tag_row-row.ensures (search rules) (omega arith)).1

pub returns-clause-fits : goal.returns-clause-fits
returns-clause-fits c =
    let bytes : IsBytes c.args.code.now = λ i. let byte = c.type_inv.code i in omega arith in
    ((stands_unindexed c.args.code.now c.args.at c.tag_row-row.result.now bytes (omega arith) c.tag_row-row.ensures (search rules) (omega arith)).0, omega arith)
