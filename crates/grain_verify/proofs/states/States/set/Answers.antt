use Rattle.std.proofs.Common.{List, Option, Some, set, ap, ◌∙◌}
use Rattle.grain_verify.specs.declared.state.State.{State}
use Rattle.grain_verify.proofs.ChunkNumbers.{set_here}
use Rattle.grain_verify.proofs.states.States.set.Goals as goal

pub returns : goal.returns
returns c =
    set_here c.self.inside.chunk c.self.inside.entries.items c.args.number c.args.state
    ∙ ap (λ (states : List (Option State)). set states c.args.number (Some c.args.state)) c.self.view_is
