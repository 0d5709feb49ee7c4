-- What an operation does, where its flow is known.
use Rattle.std.proofs.Common.{◌≡◌, ℕ, ◌+◌, ◌-◌, ◌^◌, ◌<◌, ◌≤◌, length, ap, refl, subst}
use Rattle.std.specs.Int.Bits.{and_zero_l}
use Rattle.grain_code.specs.Span.{Span}
use Rattle.grain_code.specs.declared.op.Op.{Op}
use Rattle.grain_verify.specs.Arrivals.{RefusesState}
use Rattle.grain_rules.specs.Capabilities.{Allows}
use Rattle.grain_rules.specs.Code.{Bytecode, coded}
use Rattle.grain_rules.specs.Counts.{Counts}
use Rattle.grain_rules.specs.Effects.{Meets, operands_after}
use Rattle.grain_rules.specs.Flow.{Flow}
use Rattle.grain_rules.specs.Rows.{caps_of, flow_of, needs}
use Rattle.grain_verify.specs.Operands.{stack_effect}
use Rattle.grain_rules.specs.FlowFields.{handlers_for, iterators_for}
use Rattle.grain_verify.specs.FlowView.{IsMetBy, IsShort}
use Rattle.grain_rules.specs.EffectView.{flow}
use Rattle.grain_verify.specs.Plain.{GoesOn}
use Rattle.grain_rules.specs.Setting.{Setting}
use Rattle.grain_rules.specs.Sinking.{Stays}
use Rattle.grain_rules.specs.Typing.{Passes, StandsIn}
use Rattle.grain_code.specs.declared.flow.Flow.{Flow as Way}
use Rattle.grain_code.specs.declared.flow.Flow.TheVariants as ways
use Rattle.grain_rules.specs.declared.error.VerifyError.{VerifyError}
use Rattle.grain_rules.specs.declared.error.VerifyError.TheVariants as errors

-- the operands that are left
pub left_is : (s : Setting) (op : Op) (needs takes gives n : ℕ) → (needs, takes, gives) ≡ stack_effect s op → n - takes + gives ≡ operands_after s op n
left_is s op needs takes gives n known = ap (λ (e : ℕ × ℕ × ℕ). n - e.1 + e.2) known

pub meets_known : (s : Setting) (op : Op) (c : Counts) (f : Flow) → f ≡ flow_of op → needs s op ≤ c.operands → IsMetBy f c → Meets s op c
meets_known s op c f same there met = record {
  operands = there;
  iterators = subst (λ (g : Flow). iterators_for g ≤ c.iterators) same met.iterators;
  handlers = subst (λ (g : Flow). handlers_for g ≤ length c.bases) same met.handlers;
}

pub short_state : (code : Bytecode) (op : Op) (at : ℕ) (c : Counts) (f : Flow) (e : VerifyError) → f ≡ flow_of op → Allows code.setting.caps (caps_of code.setting op) → IsShort f at c e → RefusesState code op at c e
short_state code op at c f (errors.IteratorUnderflow a) same allowed (ea, l) = (ea, allowed, subst (λ (g : Flow). c.iterators < iterators_for g) same l)
short_state code op at c f (errors.HandlerUnderflow a) same allowed (ea, l) = (ea, allowed, subst (λ (g : Flow). length c.bases < handlers_for g) same l)
short_state code op at c f e same allowed h = absurd h

-- where nothing is asked, all of it is there
pub nothing_missing : (caps : ℕ) → Allows caps 0
nothing_missing caps = and_zero_l (2 ^ 16 - 1 - caps)

-- an operation that finds all that it needs, and stays above the base of the last handler, passes
pub passes_known : (code : Bytecode) (chunk : Span) (at : ℕ) (op : Op) (c : Counts) (caps needs takes gives : ℕ) (f : Flow) → StandsIn (coded code) chunk at op
    → caps ≡ caps_of code.setting op → (needs, takes, gives) ≡ stack_effect code.setting op → f ≡ flow_of op → Allows code.setting.caps caps → needs ≤ c.operands → IsMetBy f c
    → Stays code.setting op c → Passes (coded code) chunk at c op
passes_known code chunk at op c caps needs takes gives f stands asked known same allowed there met stays = record {
  stands = stands;
  meets = meets_known code.setting op c f same (subst (λ n. n ≤ c.operands) (ap (λ (e : ℕ × ℕ × ℕ). e.0) known) there) met;
  allowed = subst (Allows code.setting.caps) asked allowed;
  stays = stays;
}

-- a flow that goes on whatever iterators there are needs none
pub goes_freely : (way : Way) (target : ℕ) → GoesOn way → iterators_for (flow way target) ≡ 0
goes_freely ways.Falls target on = refl
goes_freely ways.Ends target on = refl
goes_freely ways.Jumps target on = refl
goes_freely ways.Branches target on = refl
goes_freely ways.Switches target on = refl
goes_freely ways.BeginsIterator target on = refl
goes_freely ways.AdvancesIterator target on = absurd on
goes_freely ways.EndsIterator target on = absurd on
goes_freely ways.PushesHandler target on = refl
goes_freely ways.PopsHandler target on = refl
