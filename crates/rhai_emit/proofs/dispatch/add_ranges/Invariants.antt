use Rattle.rhai_emit.specs.Switches.{LeadToArms}
use Rattle.rhai_emit.proofs.dispatch.add_ranges.Given as goal

abbrev pub invariant-loop-case : goal.invariant-loop-case
invariant-loop-case l = LeadToArms l.labels l.draft.targets
