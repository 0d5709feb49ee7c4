use Rattle.std.proofs.Common.{◌≡◌}
use Rattle.rhai_emit.specs.Switches.{LeadToArms}
use Rattle.rhai_emit.proofs.emitter.Emitter.add_values.Given as goal

abbrev pub invariant-loop-case : goal.invariant-loop-case
invariant-loop-case l = record {
  within : LeadToArms l.labels l.draft.targets;
  code : l.self.code ≡ l.fn.self.code;
  scope : l.self.scope ≡ l.fn.self.scope;
}
