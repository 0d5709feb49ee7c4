use Rattle.std.proofs.Common.{◌≡◌, ◌++◌, drop}
use Rattle.std.specs.List.{flat_map}
use Rattle.grain_base.specs.Tokens.{token_parts}
use Rattle.grain_flat_file.specs.Values.{operator_rows, operator_texts}
use Rattle.grain_flat_file.proofs.values.add_operators.Given as goal

abbrev pub invariant-loop-operator : goal.invariant-loop-operator
invariant-loop-operator l = record {
  rows : l.lists.rows.items ++ flat_map (λ t. operator_rows (token_parts t)) (drop l.operator-index l.operators) ≡ l.initial.lists.rows.items ++ flat_map (λ t. operator_rows (token_parts t)) l.operators;
  texts : l.lists.texts.items ++ flat_map (λ t. operator_texts (token_parts t)) (drop l.operator-index l.operators) ≡ l.initial.lists.texts.items ++ flat_map (λ t. operator_texts (token_parts t)) l.operators;
}
