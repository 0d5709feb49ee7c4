use Rattle.std.proofs.Common.{◌≤◌, refl, subst, arith}
use Rattle.std.specs.List.{All}
use Rattle.std.proofs.lemmas.List.Elements.{All-weaker}
use Rattle.grain_explain.specs.Pursuits.{IsRowIn}
use Rattle.grain_explain.specs.RowView.{typing_of}
use Rattle.grain_explain.specs.Scenes.{seen}
use Rattle.grain_explain.specs.declared.row.Row.{Row}
use Rattle.grain_explain.proofs.Refused.{deepest_row, typed_rows, unspanned}
use Rattle.grain_explain.proofs.Walked.{rows_reached, some_held, walked_typing}
use Rattle.grain_explain.proofs.scene.Scene.certify.Goals as goal

pub returns-in_default : goal.returns-in_default
returns-in_default g c =
    let s = seen g.P.Read.facts g.P.Read.leads c.args.self.now in
    absurd (some_held s c.args.visited.now.bases.now c.args.visited.now.slots.now c.requires.pursued (rw c.in_default.is at c.deepest.ensures.most))

pub returns-then-here-from : goal.returns-then-here-from
returns-then-here-from g c =
    let s = seen g.P.Read.facts g.P.Read.leads c.args.self.now in
    let bases = c.args.visited.now.bases.now in
    let slots = c.args.visited.now.slots.now in
    let rows = c.args.rows.now in
    let r = c.requires in
    let low = c.if-here-from.true in
    let declared = c.max_stack-declared.ensures in
    let from = c.from.ensures in
    let sure = walked_typing s bases slots rows r.ready r.linked r.come r.pursued r.ascending r.held r.whole s.chunk.max_stack (λ a h. (let most = c.in-Some.ensures.most a h in omega arith)) in
    typed_rows s.code s.chunk bases rows sure (rows_reached s bases slots rows r.come r.held)

pub refuse-requires-clause-here : goal.refuse-requires-clause-here
refuse-requires-clause-here g c = c.in-Some.ensures.holds

pub refuse-requires-clause-flaw : goal.refuse-requires-clause-flaw
refuse-requires-clause-flaw g c =
    let s = seen g.P.Read.facts g.P.Read.leads c.args.self.now in
    let bases = c.args.visited.now.bases.now in
    let slots = c.args.visited.now.slots.now in
    let rows = c.args.rows.now in
    let r = c.requires in
    let here = c.in-Some.here.now in
    let n = here.row.operands in
    let most = c.in-Some.ensures.most in
    let sure = walked_typing s bases slots rows r.ready r.linked r.come r.pursued r.ascending r.held r.whole n most in
    let all : All (λ (x : Row). x.operands ≤ n) rows =
    All-weaker (IsRowIn slots) (λ (x : Row). x.operands ≤ n) (λ x (a, h, same). subst (λ (y : Row). y.operands ≤ n) same (most a h)) rows r.held in
    let (k, e) = c.in-Some.ensures.holds in
    let low = c.if-here-from.false in
    let from = c.from.ensures in (
      r.ready.framed,
      c.max_stack-declared.ensures,
      omega arith,
      deepest_row s.code s.chunk n n bases rows sure all here.row (r.come k here e).come.reached refl,
      (n, (typing_of bases rows, unspanned s.code s.chunk n n (typing_of bases rows) sure.typing)),
    )
