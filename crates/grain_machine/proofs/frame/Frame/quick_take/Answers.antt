use Rattle.std.proofs.Common.{◌≡◌, ℕ, List, [], refl, sym, ap, ◌∙◌, arith}
use Rattle.std.proofs.lemmas.List.{append-nil}
use Rattle.grain_machine.specs.State.{frame_with_operands}
use Rattle.grain_machine.specs.Values.{below}
use Rattle.grain_machine.proofs.QuickMoves.{below_none}
use Rattle.grain_machine.proofs.frame.Frame.quick_take.Goals as goal

pub returns-then-takes-eq1-clause-taken : goal.returns-then-takes-eq1-clause-taken
returns-then-takes-eq1-clause-taken g c =
    let s = c.args.self.now in
    let xs = s.machine.operands in
    let same : below 1 xs ≡ below c.args.takes xs = ap (λ (n : ℕ). below n xs) (sym c.if-takes-eq1.true) in
    ([], refl, c.drop_top.ensures ∙ ap (λ (ys : List g.row.V.Denot). frame_with_operands ys s) (same ∙ sym (append-nil (below c.args.takes xs))))

pub returns-else-takes-eq1-clause-taken : goal.returns-else-takes-eq1-clause-taken
returns-else-takes-eq1-clause-taken g c =
    let s = c.args.self.now in
    let xs = s.machine.operands in
    let none : c.args.takes ≡ 0 = omega (arith, c.requires.few, c.if-takes-eq1.false) in
    let same : xs ≡ below c.args.takes xs = sym (below_none xs) ∙ ap (λ (n : ℕ). below n xs) (sym none) in
    ([], refl, ap (λ (ys : List g.row.V.Denot). frame_with_operands ys s) (same ∙ sym (append-nil (below c.args.takes xs))))
