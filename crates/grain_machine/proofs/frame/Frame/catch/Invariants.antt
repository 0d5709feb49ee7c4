use Rattle.std.proofs.Common.{◌≡◌, vec_len}
use Rattle.grain_rules.specs.Machine.{innermost}
use Rattle.grain_machine.specs.State.{innermost_first}
use Rattle.grain_machine.proofs.frame.Frame.catch.Given as goal

abbrev pub invariant-loop-handler : goal.invariant-loop-handler
invariant-loop-handler g l = record {
  same : innermost (innermost_first l.self-inside.handlers.items) ≡ innermost (innermost_first l.initial.self-inside.handlers.items);
  rest : l.self-inside.operands ≡ l.initial.self-inside.operands;
  room : l.self-inside.room ≡ l.initial.self-inside.room;
  iterators : l.self-inside.iterators ≡ l.initial.self-inside.iterators;
}

abbrev pub decreases-loop-handler : goal.decreases-loop-handler
decreases-loop-handler g l = vec_len l.self-inside.handlers
