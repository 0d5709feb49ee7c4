use Rattle.std.proofs.Common.{◌≡◌, Some, nat_eq, rules, tests}
use Rattle.std.specs.Option.{option_eq}
use Rattle.std.specs.List.{position}
use Rattle.std.proofs.lemmas.Iterator.{YieldsList-from_slice}
use Rattle.std.proofs.lemmas.Iterator.Search.{position_from_yields_List}
use Rattle.grain_base.proofs.OperatorRows.{first_row}
use Rattle.grain_base.proofs.operators.number_of_assignment.Goals as goal

pub returns : goal.returns
returns c =
    let is : c.position.result ≡ position (λ row. option_eq nat_eq row.1 (Some c.args.number)) c.table.result.now =
    position_from_yields_List (λ row. option_eq nat_eq row.1 (Some c.args.number)) _ _ c.position.result c.position.ensures.ran (YieldsList-from_slice _ c.iter.ensures.rest) (λ x b q k. search (rules, tests)) in
    first_row c.table.result.now c.table.ensures (λ row. option_eq nat_eq row.base (Some c.args.number)) c.position.result is
