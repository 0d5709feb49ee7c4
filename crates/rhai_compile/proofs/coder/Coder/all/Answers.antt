use Rattle.std.proofs.Common.{arith, rules}
use Rattle.rhai_emit.specs.Places.{expr_places}
use Rattle.rhai_emit.proofs.PlaceTests.{each_pass}
use Rattle.rhai_compile.proofs.coder.Coder.all.Goals as goal

pub loop-item-preserved : goal.loop-item-preserved
loop-item-preserved g c = record {
  written = search rules;
  placed = λ test these old.
      c.in_ok-expr.ensures.placed test
      (each_pass expr_places test c.args.list.now c.loop-item.item-index c.item-item.result (omega arith) c.item-item.is these)
      (c.loop-item.invariant.placed test these old);
}
