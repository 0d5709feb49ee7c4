use Rattle.std.proofs.Common.{◌≡◌, ◌≤◌, List, [], ◌∷◌, length, refl, ap, vec_len, arith}
use Rattle.grain_machine.specs.State.{FrameState, innermost_first}
use Rattle.grain_machine.proofs.Lent.{lent, on_err, replaced_by}
use Rattle.grain_machine.proofs.frame.Frame.give.Goals as goal

pub returns-in_err-value-clause-err : goal.returns-in_err-value-clause-err
returns-in_err-value-clause-err g c =
    let f = c.self.inside in
    let all : vec_len f.operands ≡ length f.operands.items = f.operands.ok.0 in
    let seen : length f.operands.items ≡ length c.args.self.now.machine.operands = ap (λ (s : FrameState g.row.V.Denot g.row.I.Denot). length s.machine.operands) c.self.view_is in
    let there : c.args.takes ≤ length c.args.self.now.machine.operands = c.requires.there in
    let long : c.len.result ≡ vec_len f.operands = c.len.ensures in
    on_err c.from_residual.result
    (lent f.at f.room f.operands f.iterators.items (innermost_first f.handlers.items) c.args.self.now c.len.result c.args.takes c.deref_mut.result.now c.give.new.operands
    c.self.view_is c.deref_mut.ensures.value long (omega (arith, all, seen, there, long)) (omega (arith, all, seen, there, long, c.give.auto.operands, ap (λ (zs : List g.row.V.Denot). length zs) c.deref_mut.ensures.value)))

pub returns-in-Value-clause-ok : goal.returns-in-Value-clause-ok
returns-in-Value-clause-ok g c =
    let f = c.self.inside in
    let all : vec_len f.operands ≡ length f.operands.items = f.operands.ok.0 in
    let seen : length f.operands.items ≡ length c.args.self.now.machine.operands = ap (λ (s : FrameState g.row.V.Denot g.row.I.Denot). length s.machine.operands) c.self.view_is in
    let there : c.args.takes ≤ length c.args.self.now.machine.operands = c.requires.there in
    let long : c.len.result ≡ vec_len f.operands = c.len.ensures in
    let lending = lent f.at f.room f.operands f.iterators.items (innermost_first f.handlers.items) c.args.self.now c.len.result c.args.takes c.deref_mut.result.now c.give.new.operands
    c.self.view_is c.deref_mut.ensures.value long (omega (arith, all, seen, there, long)) (omega (arith, all, seen, there, long, c.give.auto.operands, ap (λ (zs : List g.row.V.Denot). length zs) c.deref_mut.ensures.value)) in
    (c.in-Value.value ∷ [], refl, replaced_by c.args.takes c.args.self.now _ c.replace.new.self (c.in-Value.value ∷ []) there lending c.replace.ensures)
