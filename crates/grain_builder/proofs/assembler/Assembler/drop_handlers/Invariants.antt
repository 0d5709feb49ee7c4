use Rattle.std.proofs.Common.{◌≡◌}
use Rattle.grain_builder.specs.Unfinished.{AddsPlace, SameLabels, level_without_handlers}
use Rattle.grain_builder.proofs.assembler.Assembler.drop_handlers.Given as goal

abbrev pub invariant-handlers : goal.invariant-handlers
invariant-handlers l = record {
  operands : l.self.operands ≡ l.fn.self.operands;
  level : l.self.level ≡ level_without_handlers l._turn l.fn.self.level;
  labels : SameLabels l.fn.self l.self;
  placed : AddsPlace l.fn.self l.self l.place;
}
