use Rattle.std.proofs.Common.{arith, rules}
use Rattle.rhai_emit.proofs.PlaceTests.{each_pass}
use Rattle.rhai_emit.specs.Bodies.{body_places}
use Rattle.rhai_compile.proofs.programs.chunks.Goals as goal

pub loop-turn-preserved : goal.loop-turn-preserved
loop-turn-preserved c = record {
  begun = search rules;
  ended = search rules;
  placed = λ test these old.
      c.in_ok-function_chunk.ensures.placed test
      (each_pass body_places test c.args.bodies.now _ c.index-bodies-index.result (omega arith) c.index-bodies-index.is these)
      (c.loop-turn.invariant.placed test these old);
}
