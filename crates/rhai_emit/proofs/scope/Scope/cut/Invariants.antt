use Rattle.std.proofs.Common.{◌≡◌}
use Rattle.rhai_emit.proofs.scope.Scope.cut.Given as goal

abbrev pub invariant-variables : goal.invariant-variables
invariant-variables l = l.self.around ≡ l.fn.self.around
