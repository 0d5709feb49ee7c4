use Rattle.std.proofs.Common.{◌≡◌, ◌≤◌, List, length, ap, vec_len, arith}
use Rattle.grain_machine.specs.State.{FrameState, innermost_first}
use Rattle.grain_machine.proofs.Lent.{dropped, lent, on_err}
use Rattle.grain_machine.proofs.frame.Frame.take.Goals as goal

pub returns-in_err-take-clause-err : goal.returns-in_err-take-clause-err
returns-in_err-take-clause-err g c =
    let f = c.self.inside in
    let all : vec_len f.operands ≡ length f.operands.items = f.operands.ok.0 in
    let seen : length f.operands.items ≡ length c.args.self.now.machine.operands = ap (λ (s : FrameState g.row.V.Denot g.row.I.Denot). length s.machine.operands) c.self.view_is in
    let there : c.args.needs ≤ length c.args.self.now.machine.operands = c.requires.there in
    let long : c.len-len.result ≡ vec_len f.operands = c.len-len.ensures in
    on_err c.from_residual.result
    (lent f.at f.room f.operands f.iterators.items (innermost_first f.handlers.items) c.args.self.now c.len-len.result c.args.needs c.deref_mut.result.now c.take.new.operands
    c.self.view_is c.deref_mut.ensures.value long (omega (arith, all, seen, there, long)) (omega (arith, all, seen, there, long, c.take.auto.operands, ap (λ (zs : List g.row.V.Denot). length zs) c.deref_mut.ensures.value)))

pub returns-clause-ok : goal.returns-clause-ok
returns-clause-ok g c =
    let f = c.self.inside in
    let all : vec_len f.operands ≡ length f.operands.items = f.operands.ok.0 in
    let seen : length f.operands.items ≡ length c.args.self.now.machine.operands = ap (λ (s : FrameState g.row.V.Denot g.row.I.Denot). length s.machine.operands) c.self.view_is in
    let there : c.args.needs ≤ length c.args.self.now.machine.operands = c.requires.there in
    let long : c.len-len.result ≡ vec_len f.operands = c.len-len.ensures in
    dropped f.at f.room f.operands f.iterators.items (innermost_first f.handlers.items) c.args.self.now c.len-len.result c.args.needs c.args.takes c.deref_mut.result.now c.take.new.operands
    c.truncate.new.self c.self.view_is c.deref_mut.ensures.value long (omega (arith, all, seen, there, long)) (omega (arith, all, seen, there, long, c.take.auto.operands, ap (λ (zs : List g.row.V.Denot). length zs) c.deref_mut.ensures.value)) c.requires.within c.truncate.ensures.items
