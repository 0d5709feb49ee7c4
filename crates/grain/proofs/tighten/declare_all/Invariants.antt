use Rattle.std.proofs.Common.{◌≡◌, map, length, take}
use Rattle.grain.specs.Tightened.{undeclared_function}
use Rattle.grain.proofs.tighten.declare_all.Given as goal

abbrev pub invariant-loop-index : goal.invariant-loop-index
invariant-loop-index l = record {
  long : length l.functions ≡ length l.initial.functions;
  declared : map (λ f. f.chunk.max_stack) (take l.index l.functions) ≡ take l.index l.numbers;
  rest : map undeclared_function l.functions ≡ map undeclared_function l.initial.functions;
}
