use Rattle.std.proofs.Common.{ap, sym, ◌∙◌, option_map, inr}
use Rattle.grain_base.specs.Tokens.{token_parts}
use Rattle.grain_base.specs.Operators.{OperatorRow, base_operator_of}
use Rattle.grain_base.proofs.OperatorRows.{assigned_text, based}
use Rattle.grain_base.proofs.token.Token.base_operator.Goals as goal

pub returns-in_ok-row-in-Ok-clause-base : goal.returns-in_ok-row-in-Ok-clause-base
returns-in_ok-row-in-Ok-clause-base c =
    let number = c.in-Ok.ensures in
    let base = c.in_ok-row-in-Ok.field-0 in
    based c.in-Ok.number base c.of_number.result number.1 (ap (λ (row : OperatorRow). row.base) (sym c.row.ensures) ∙ c.in_ok-row-in-Ok.was) c.of_number.ensures.found c.of_number.ensures.none
    ∙ sym (ap (λ parts. option_map (λ n. inr n) (base_operator_of parts)) number.0)

pub returns-in_ok-row-in-Ok-clause-text : goal.returns-in_ok-row-in-Ok-clause-text
returns-in_ok-row-in-Ok-clause-text c =
    let number = c.in-Ok.ensures in
    assigned_text c.in-Ok.number c.in_ok-row-in-Ok.field-0 c.of_number.result (token_parts c.args.self.now) number.0 number.1 (ap (λ (row : OperatorRow). row.base) (sym c.row.ensures) ∙ c.in_ok-row-in-Ok.was) c.of_number.ensures.found
