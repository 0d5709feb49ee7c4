use Rattle.std.proofs.Common.{rules}
use Rattle.grain_flat_file.proofs.contents.FlatFile.contents.Goals as goal

pub returns : goal.returns
returns c = record {
  size_is = search rules;
  program = search rules;
  caps_are = search rules;
  id_is = search rules;
  has_source_is = search rules;
  source_is = search rules;
  functions_are = search rules;
  parameters_are = search rules;
  constants_are = search rules;
  values_are = search rules;
  texts_are = search rules;
  operators_are = search rules;
  operator_texts_are = search rules;
  op_assignments_are = search rules;
  step_flags_are = search rules;
  dispatch_is = search rules;
  positions_are = search rules;
  has_positions_is = search rules;
  sites = (c.self.inside.lists.positions, rw (← c.self.view_is) c.self.invariant.positions, c.deref-12.ensures.value, c.deref-13.ensures.value);
  chain_steps_are = search rules;
  switch_cases_are = search rules;
  switch_ranges_are = search rules;
  function_parameters_are = search rules;
}
