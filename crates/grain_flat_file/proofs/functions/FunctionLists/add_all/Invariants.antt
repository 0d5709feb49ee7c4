use Rattle.std.proofs.Common.{◌≡◌, ◌++◌, drop, map}
use Rattle.std.specs.List.{flat_map}
use Rattle.grain_code.specs.declared.function.Function.{Function}
use Rattle.grain_flat_file.specs.Contents.{function_row, parameters_of}
use Rattle.grain_flat_file.proofs.functions.FunctionLists.add_all.Given as goal

abbrev pub invariant-loop-function : goal.invariant-loop-function
invariant-loop-function l = record {
  chunks : l.self.chunks.items ++ map (λ (f : Function). f.chunk) (drop l.function-index l.functions) ≡ l.initial.self.chunks.items ++ map (λ (f : Function). f.chunk) l.functions;
  rows : l.self.rows.items ++ map function_row (drop l.function-index l.functions) ≡ l.initial.self.rows.items ++ map function_row l.functions;
  parameters : l.self.parameters.items ++ flat_map parameters_of (drop l.function-index l.functions) ≡ l.initial.self.parameters.items ++ flat_map parameters_of l.functions;
}
