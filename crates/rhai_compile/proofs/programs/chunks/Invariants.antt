use Rattle.std.proofs.Common.{◌≤◌}
use Rattle.rhai_compile.specs.Chunks.{BeginsChunk}
use Rattle.rhai_emit.specs.Bodies.{bodies_places}
use Rattle.rhai_emit.specs.Rules.{AddsPlaces}
use Rattle.rhai_compile.proofs.programs.chunks.Given as goal

abbrev pub invariant-loop-turn : goal.invariant-loop-turn
invariant-loop-turn l = record {
  begun : BeginsChunk l.emitter.code;
  ended : 1 ≤ l.emitter.code.level.home;
  placed : AddsPlaces l.initial.emitter l.emitter (bodies_places l.bodies);
}
