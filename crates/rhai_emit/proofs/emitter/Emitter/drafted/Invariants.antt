use Rattle.std.proofs.Common.{◌≡◌}
use Rattle.rhai_emit.specs.Switches.{LeadToArms}
use Rattle.rhai_emit.proofs.emitter.Emitter.drafted.Given as goal

abbrev pub invariant-loop-index : goal.invariant-loop-index
invariant-loop-index l = record {
  within : LeadToArms l.labels l.draft.targets;
  code : l.self.code ≡ l.fn.self.code;
  scope : l.self.scope ≡ l.fn.self.scope;
}

abbrev pub invariant-loop-arm : goal.invariant-loop-arm
invariant-loop-arm l = record {
  within : LeadToArms l.labels l.draft.targets;
  code : l.self.code ≡ l.fn.self.code;
  scope : l.self.scope ≡ l.fn.self.scope;
}

abbrev pub invariant-loop-index-2 : goal.invariant-loop-index-2
invariant-loop-index-2 l = record {
  within : LeadToArms l.labels l.draft.targets;
  code : l.self.code ≡ l.fn.self.code;
  scope : l.self.scope ≡ l.fn.self.scope;
}
