use Rattle.std.proofs.Common.{◌≡◌, ◌+◌, ◌-◌, true, ap, arith, refl, ◌∙◌}
use Rattle.grain_builder.specs.Unfinished.{Level}
use Rattle.rhai_compile.proofs.FormParts.{on_ok, own_pass}
use Rattle.rhai_compile.proofs.Staying.{room_given, written_then}
use Rattle.rhai_emit.proofs.LoopFacts.{stands_after}
use Rattle.rhai_emit.proofs.PlaceTests.{and_right, each_pass}
use Rattle.rhai_emit.specs.Places.{list_places, pass, expr_places}
use Rattle.rhai_emit.specs.Rules.{Stands}
use Rattle.rhai_compile.proofs.coder.Coder.interpolated.Goals as goal

pub loop-piece-preserved : goal.loop-piece-preserved
loop-piece-preserved g c = record {
  written =
      let first = c.loop-piece.invariant.written.operands in
      let second = c.in_ok-expr.ensures.written.operands in
      written_then c.put.new.self c.loop-piece.emitter c.put-in-loop-piece.new.self _ _ _ c.loop-piece.invariant.written
      (written_then c.loop-piece.emitter c.expr.new.emitter c.put-in-loop-piece.new.self _ _ _ c.in_ok-expr.ensures.written c.in_ok-put-2.ensures.written refl)
      (omega arith);
  placed = λ test these old.
      let own : pass test (expr_places c.piece-item.result) ≡ true = each_pass expr_places test c.args.pieces.now c.loop-piece.piece-index c.piece-item.result (omega arith) c.piece-item.is (and_right (test c.args.place) (pass test (list_places c.args.pieces.now)) these) in
      c.in_ok-put-2.ensures.placed test (own_pass test c.piece-item.result own)
      (c.in_ok-expr.ensures.placed test own (c.loop-piece.invariant.placed test these old));
}

pub expr-requires-clause-stands : goal.expr-requires-clause-stands
expr-requires-clause-stands g c =
    let floor = c.requires.stands.floor in
    let first : Stands c.put.new.self = stands_after c.args.emitter.now c.put.new.self (c.args.emitter.now.code.operands - 0 + 1) c.in_ok-put.ensures.written (omega arith) c.requires.stands in
    let here : Stands c.loop-piece.emitter = stands_after c.put.new.self c.loop-piece.emitter c.put.new.self.code.operands c.loop-piece.invariant.written first.floor first in
    here

pub put-requires-in-loop-piece-clause-room : goal.put-requires-in-loop-piece-clause-room
put-requires-in-loop-piece-clause-room g c =
    let floor = c.requires.stands.floor in
    let first : Stands c.put.new.self = stands_after c.args.emitter.now c.put.new.self (c.args.emitter.now.code.operands - 0 + 1) c.in_ok-put.ensures.written (omega arith) c.requires.stands in
    let here : Stands c.loop-piece.emitter = stands_after c.put.new.self c.loop-piece.emitter c.put.new.self.code.operands c.loop-piece.invariant.written first.floor first in
    room_given c.loop-piece.emitter c.expr.new.emitter c.in_ok-expr.ensures.written here

pub put-requires-2-clause-room : goal.put-requires-2-clause-room
put-requires-2-clause-room g c =
    let floor = c.requires.stands.floor in
    let first = c.in_ok-put.ensures.written.operands in
    let second = c.loop-piece.invariant.written.operands in
    let same = ap (λ (l : Level). l.floor) (c.loop-piece.invariant.written.level ∙ c.in_ok-put.ensures.written.level) in
    omega arith

pub returns-clause-written : goal.returns-clause-written
returns-clause-written g c =
    let first = c.in_ok-put.ensures.written.operands in
    let second = c.loop-piece.invariant.written.operands in
    on_ok c.put-2.result
    (λ last. written_then c.args.emitter.now c.loop-piece.emitter c.put-2.new.self _ _ _
    (written_then c.args.emitter.now c.put.new.self c.loop-piece.emitter _ _ _ c.in_ok-put.ensures.written c.loop-piece.invariant.written refl)
    last (omega arith))
    c.put-2.ensures.written
