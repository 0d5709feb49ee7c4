use Rattle.std.proofs.Common.{◌≡◌, rules, tests}
use Rattle.std.specs.Str.{bytes_eq}
use Rattle.std.specs.List.{position}
use Rattle.std.proofs.lemmas.Iterator.{YieldsList-from_slice}
use Rattle.std.proofs.lemmas.Iterator.Search.{position_from_yields_List}
use Rattle.grain_base.proofs.OperatorRows.{first_row}
use Rattle.grain_base.proofs.operators.number_with_text.Goals as goal

pub returns : goal.returns
returns c =
    let is : c.position.result ≡ position (λ row. bytes_eq row.0.now c.args.text.now) c.table.result.now =
    position_from_yields_List (λ row. bytes_eq row.0.now c.args.text.now) _ _ c.position.result c.position.ensures.ran (YieldsList-from_slice _ c.iter.ensures.rest) (λ x b q k. search (rules, tests)) in
    first_row c.table.result.now c.table.ensures (λ row. bytes_eq row.text c.args.text.now) c.position.result is
