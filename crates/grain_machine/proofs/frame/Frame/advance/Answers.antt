use Rattle.std.proofs.Common.{◌≡◌, ◌<◌, length, ap, ◌∙◌, vec_len, arith}
use Rattle.grain_machine.specs.State.{FrameState, innermost_first}
use Rattle.grain_machine.proofs.Lent.{advances}
use Rattle.grain_machine.proofs.frame.Frame.advance.Goals as goal

pub returns : goal.returns
returns g c =
    let f = c.self.inside in
    let all : vec_len f.iterators ≡ length f.iterators.items = f.iterators.ok.0 in
    let seen : length f.iterators.items ≡ length c.args.self.now.machine.iterators = ap (λ (s : FrameState g.row.V.Denot g.row.I.Denot). length s.machine.iterators) c.self.view_is in
    let some : 0 < length c.args.self.now.machine.iterators = c.requires.there in
    advances f.at f.operands.items f.iterators.items (innermost_first f.handlers.items) f.room c.len-last.result c.args.self.now c.advance.new.iterator
    c.self.view_is (c.len-last.ensures ∙ all) (omega (arith, all, seen, some, c.len-last.ensures))
