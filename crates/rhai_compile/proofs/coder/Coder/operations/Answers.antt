use Rattle.std.proofs.Common.{arith, rules}
use Rattle.rhai_emit.specs.Places.{operation_places}
use Rattle.rhai_emit.proofs.PlaceTests.{each_pass}
use Rattle.rhai_compile.proofs.coder.Coder.operations.Goals as goal

pub loop-operation-preserved : goal.loop-operation-preserved
loop-operation-preserved g c = record {
  written = search rules;
  placed = λ test these old.
      c.in_ok-operation.ensures.placed test
      (each_pass operation_places test c.args.rest.now c.loop-operation.operation-index c.operation-item.result (omega arith) c.operation-item.is these)
      (c.loop-operation.invariant.placed test these old);
}
