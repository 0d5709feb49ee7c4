use Rattle.std.proofs.Common.{◌≡◌, true, arith, refl}
use Rattle.rhai_compile.proofs.FormParts.{own_pass, value_pass}
use Rattle.rhai_compile.proofs.Staying.{written_then}
use Rattle.rhai_emit.proofs.PlaceTests.{each_pass}
use Rattle.rhai_emit.specs.Places.{entry_places, pass, expr_places}
use Rattle.rhai_compile.proofs.coder.Coder.map.Goals as goal

pub loop-entry-preserved : goal.loop-entry-preserved
loop-entry-preserved g c = record {
  written =
      let first = c.loop-entry.invariant.written.operands in
      let second = c.in_ok-literal.ensures.written.operands in
      written_then c.put.new.self c.loop-entry.emitter c.expr.new.emitter _ _ _ c.loop-entry.invariant.written
      (written_then c.loop-entry.emitter c.literal.new.self c.expr.new.emitter _ _ _ c.in_ok-literal.ensures.written c.in_ok-expr.ensures.written refl)
      (omega arith);
  placed = λ test these old.
      let value = c.entry-item.result.value in
      let own : pass test (expr_places value) ≡ true = value_pass test c.entry-item.result (each_pass entry_places test c.args.entries.now c.loop-entry.entry-index c.entry-item.result (omega arith) c.entry-item.is these) in
      c.in_ok-expr.ensures.placed test own
      (c.in_ok-literal.ensures.placed test (own_pass test value own) (c.loop-entry.invariant.placed test these old));
}
