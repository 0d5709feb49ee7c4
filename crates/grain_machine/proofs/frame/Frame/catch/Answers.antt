use Rattle.std.proofs.Common.{◌≡◌, ◌∷◌, true, Global, Vec, refl, sym, take, ap, ◌∙◌}
use Rattle.std.proofs.lemmas.Bool.{not-true}
use Rattle.grain_rules.specs.Machine.{innermost}
use Rattle.grain_machine.specs.State.{FrameState, handler_of, innermost_first}
use Rattle.grain_machine.proofs.Handlers.{innermost_is, last_first, same_machine}
use Rattle.grain_machine.proofs.frame.Frame.catch.Goals as goal

pub returns-then-not-handler-clause-caught : goal.returns-then-not-handler-clause-caught
returns-then-not-handler-clause-caught g c =
    let h = c.in-Some.handler in
    let rest = innermost_first c.pop.new.self.items in
    let popped : innermost_first c.loop-handler.self-inside.handlers.items ≡ handler_of h ∷ rest = ap innermost_first c.in-Some.ensures.items ∙ last_first c.pop.new.self.items h in
    let pushed : innermost_first c.push_reserved.new.self.items ≡ record (handler_of h) { spent = true } ∷ rest =
    ap innermost_first c.push_reserved.ensures.items ∙ last_first c.pop.new.self.items (record h { spent = true }) in
    let seen : c.args.self.now.machine.handlers ≡ innermost_first c.self.inside.handlers.items =
    ap (λ (s : FrameState g.row.V.Denot g.row.I.Denot). s.machine.handlers) (sym c.self.view_is) in
    let operands : c.loop-handler.self-inside.operands.items ≡ c.args.self.now.machine.operands =
    ap (λ (v : Vec g.row.V.Denot Global). v.items) c.loop-handler.invariant.rest ∙ ap (λ (s : FrameState g.row.V.Denot g.row.I.Denot). s.machine.operands) c.self.view_is in
    let iterators : c.loop-handler.self-inside.iterators.items ≡ c.args.self.now.machine.iterators =
    ap (λ (v : Vec g.row.I.Denot Global). v.items) c.loop-handler.invariant.iterators ∙ ap (λ (s : FrameState g.row.V.Denot g.row.I.Denot). s.machine.iterators) c.self.view_is in
    record {
      handler = handler_of h;
      outer = rest;
      caught = ap innermost seen ∙ (sym c.loop-handler.invariant.same ∙ (ap innermost popped ∙ innermost_is (handler_of h) rest (not-true h.spent c.if-not-handler.true)));
      lands = same_machine _ _ _ _ _ _ _ _ refl (c.truncate.ensures.items ∙ ap (take h.operands) operands)
          (c.truncate-then-not-handler.ensures.items ∙ ap (take h.iterators) iterators) pushed;
    }
