use Rattle.std.proofs.Common.{ap, rules, ◌∙◌}
use Rattle.grain_builder.specs.Unfinished.{Level, level_without_handlers}
use Rattle.grain_builder.proofs.Bases.{without_one_more}
use Rattle.grain_builder.proofs.assembler.Assembler.drop_handlers.Goals as goal

pub handlers-preserved : goal.handlers-preserved
handlers-preserved c = record {
  operands = search rules;
  level =
      c.in_ok-drop_handler.ensures.level
      ∙ ap (λ (l : Level). level_without_handlers 1 l) c.handlers.invariant.level
      ∙ without_one_more c.handlers._turn c.args.self.now.level;
  labels = search rules;
  placed = search rules;
}
