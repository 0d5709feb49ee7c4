use Rattle.std.proofs.Common.{ℕ, sym, subst}
use Rattle.std.specs.List.{Contains}
use Rattle.grain_base.specs.View.{content}
use Rattle.grain_rules.specs.Code.{switch_targets}
use Rattle.grain_pools.specs.Dispatch.{arms}
use Rattle.grain_pools.proofs.SwitchTargets.{dispatched_among}
use Rattle.grain_machine.proofs.host.dispatch.Goals as goal

pub returns-clause-among : goal.returns-clause-among
returns-clause-among c = subst (λ (target : ℕ). Contains (switch_targets c.args.switch.now) target) (sym c.dispatch.ensures) (dispatched_among (arms c.args.switch.now) (content c.args.subject.now))
