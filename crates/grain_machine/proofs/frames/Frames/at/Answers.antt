use Rattle.std.proofs.Common.{◌≡◌, ℕ, length, sym, ap, ◌∙◌, vec_len}
use Rattle.std.specs.Prelude.{◌==◌}
use Rattle.grain_machine.specs.Calls.{Activation}
use Rattle.grain_machine.specs.Standing.{stack_of}
use Rattle.grain_machine.proofs.Calling.{first_is}
use Rattle.grain_machine.proofs.frames.Frames.at.Goals as goal

pub returns-else-is_empty : goal.returns-else-is_empty
returns-else-is_empty g c =
    let callers = c.args.self.now.callers in
    let long : vec_len callers ≡ length callers.items = callers.ok.0 in
    let some = ap (λ (n : ℕ). n == 0) (sym long) ∙ (sym c.is_empty.ensures ∙ c.if-is_empty.false) in
    c.at-else-is_empty.ensures ∙ ap (λ (a : Activation g.row.V.Denot g.row.I.Denot). a.machine.address) (sym (first_is (stack_of c.args.self.now).top callers.items c.index.result.now some c.index.ensures))
