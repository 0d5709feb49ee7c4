use Rattle.std.proofs.Common.{◌≡◌, length, map}
use Rattle.grain_rules.specs.Code.{switch_targets}
use Rattle.grain_builder.specs.Assembled.{targets_of}
use Rattle.grain_builder.specs.Finished.{LeadAmong}
use Rattle.rhai_compile.proofs.parts.switches.Given as goal

abbrev pub invariant-loop-place : goal.invariant-loop-place
invariant-loop-place l = record {
  leads : LeadAmong (map switch_targets l.switches.items) (map targets_of l.targets);
  count : length l.switches.items ≡ l.place;
}
