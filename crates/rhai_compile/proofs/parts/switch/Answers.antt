use Rattle.std.proofs.lemmas.List.Elements.{Contains-push}
use Rattle.grain_builder.specs.Assembled.{targets_of}
use Rattle.rhai_compile.proofs.SwitchParts.{parts_lead}
use Rattle.rhai_compile.proofs.parts.switch.Goals as goal

pub returns : goal.returns
returns c = parts_lead (targets_of c.args.targets.now) c.in_ok-cases.cases.entries c.in_ok-ranges.ranges.items c.args.targets.now.default c.in_ok-cases.ensures c.in_ok-ranges.ensures (Contains-push c.args.targets.now.cases.items c.args.targets.now.default)
