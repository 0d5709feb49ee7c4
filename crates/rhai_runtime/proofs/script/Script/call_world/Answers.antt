use Rattle.std.proofs.Common.{IfSome, Option, subst}
use Rattle.grain_machine.specs.Reply.{NamesFunction}
use Rattle.grain_machine.specs.declared.host.Reply.{Reply}
use Rattle.rhai_values.specs.declared.value.Value.{Value}
use Rattle.rhai_runtime.proofs.script.Script.call_world.Goals as goal

pub returns-in-Some : goal.returns-in-Some
returns-in-Some g c program =
    subst (λ (given : Option (Reply Value)). IfSome given (NamesFunction program)) c.in-Some.is (c.in_ok-reply.ensures program)
