-- Operations that stay above the base of the last handler.
use Rattle.std.proofs.Common.{◌≡◌, ℕ, ◌-◌, sym, subst, arith}
use Rattle.grain_code.specs.declared.op.Op.{Op}
use Rattle.grain_rules.specs.Counts.{Counts, last_base}
use Rattle.grain_rules.specs.Flow.{Flow, Falls}
use Rattle.grain_verify.specs.Operands.{stack_effect}
use Rattle.grain_rules.specs.Rows.{flow_of, takes}
use Rattle.grain_rules.specs.FlowFields.{iterators_for}
use Rattle.grain_verify.specs.Plain.{IsPlain}
use Rattle.grain_rules.specs.Setting.{Setting}
use Rattle.grain_rules.specs.Sinking.{ReachesUpTo, Stays, untouched}

-- what an operation leaves as it was, where its effect and its flow are known
pub untouched_known : (s : Setting) (op : Op) (c : Counts) (needs takes gives : ℕ) (f : Flow) → (needs, takes, gives) ≡ stack_effect s op → f ≡ flow_of op
    → record { operands = c.operands - takes; iterators = c.iterators - iterators_for f } ≡ untouched s op c
untouched_known s op c needs takes gives f known same = λ i. record { operands = c.operands - (known i).1; iterators = c.iterators - iterators_for (same i) }

-- a plain operation stays where what it takes lies above the base
pub plain_stays : (s : Setting) (op : Op) (c : Counts) (needs takes gives : ℕ) → IsPlain op needs takes gives
    → ReachesUpTo (last_base c.bases) (record { operands = c.operands - takes; iterators = c.iterators }) → Stays s op c
plain_stays s op c needs takes gives plain reaches = λ loud.
    subst (ReachesUpTo (last_base c.bases)) (untouched_known s op c needs takes gives Falls (plain.operands s) (sym plain.flow))
    (record { operands = reaches.operands; iterators = (let k = reaches.iterators in omega arith) })
