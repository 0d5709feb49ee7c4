use Rattle.std.proofs.Common.{◌≡◌, None}
use Rattle.rhai_emit.proofs.chunks.scope_of.Given as goal

abbrev pub invariant-loop-local : goal.invariant-loop-local
invariant-loop-local l = l.scope.around ≡ None

abbrev pub invariant-loop-param : goal.invariant-loop-param
invariant-loop-param l = l.scope.around ≡ None
