use Rattle.std.proofs.Common.{◌∙◌, ap, inr, arith, refl, sym}
use Rattle.std.proofs.lemmas.List.Elements.{All-push}
use Rattle.grain_rules.specs.FlowFields.{falls_for}
use Rattle.grain_explain.specs.RowView.{counts_of}
use Rattle.grain_explain.specs.Scenes.{ArrivesInWalk, seen, stacks_in}
use Rattle.grain_explain.specs.declared.row.Row.{Row}
use Rattle.grain_explain.proofs.Sceneries.{along_come, fall_edge, next_inside, next_within}
use Rattle.grain_explain.proofs.scene.Scene.fall.Goals as goal

pub refuse-requires-clause-here : goal.refuse-requires-clause-here
refuse-requires-clause-here g c = (c.args.departure.now.place, c.requires.left.held)

pub returns-clause-waits : goal.returns-clause-waits
returns-clause-waits g c =
    let s = seen g.P.Read.facts g.P.Read.leads c.args.self.now in
    let d = c.args.departure.now in
    let left = c.requires.left in
    let fall = left.leaves.fall in
    let row : Row = record { at = d.next; operands = d.leaving.fall.operands; iterators = d.leaving.fall.iterators; bases = d.leaving.fall.bases } in
    let edge = fall_edge s d left row d.next (stacks_in d.visited.bases.now d.leaving.fall) refl refl c.requires.falls fall.is in
    let end = c.end.ensures in
    let unlike = c.if-departure-end.false in
    let inside = next_inside s d.here.now.row.at d.next left.op c.requires.ready left.passes.stands left.next (λ e. absurd (omega arith)) in
    rw (c.in_ok-push.ensures.items, c.at.ensures) (All-push (ArrivesInWalk s d.visited) c.args.work.now.items _ c.requires.waits (along_come s d left _ fall.listed refl inside edge))

pub overflow_cast-at : goal.overflow_cast-at
overflow_cast-at g c =
    let s = seen g.P.Read.facts g.P.Read.leads c.args.self.now in
    let d = c.args.departure.now in
    let left = c.requires.left in
    let end = c.end.ensures in
    let within = next_within s d.here.now.row.at d.next left.op c.requires.ready left.passes.stands left.next in
    omega arith

pub refuse-requires-clause-flaw : goal.refuse-requires-clause-flaw
refuse-requires-clause-flaw g c =
    let d = c.args.departure.now in
    let left = c.requires.left in
    let next = left.next in
    let there = c.if-departure-end.true in
    let end = c.end.ensures in
    inr (
      c.requires.ready.framed,
      record {
        at = d.here.now.row.at;
        counts = counts_of d.visited.bases.now d.here.now.row;
        op = left.op;
        reached = (left.come d.place d.here.now left.held).come.reached;
        passes = left.passes;
        goes = sym (ap falls_for left.does.flow) ∙ c.requires.falls;
        end = sym left.next ∙ (there ∙ end);
      },
    )
