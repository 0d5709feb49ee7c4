-- What the parts of `grain_verify` promise each other.
use Rattle.std.specs.Prelude.{◌≡◌, ⊤, ℕ, IfErr, IfOk, List, [], length, Result, Vec}
use Rattle.std.specs.declared.alloc.Global.{Global}
use Rattle.grain_rules.specs.Accepted.{AreDeepest, AreSafe, AreTyped, Input, IsAccepted, input_beside}
use Rattle.grain_pools.specs.Dispatch.{Arms}
use Rattle.grain_rules.specs.Flaw.{FlawAt}
use Rattle.grain_verify.specs.Meter.{AreReached, HasCounted, IsWithinAll}
use Rattle.grain_code.specs.Span.{Span}
use Rattle.grain_pools.specs.declared.chain.Chain.{Chain}
use Rattle.grain_code.specs.declared.function.Function.{Function}
use Rattle.grain_flat.specs.Answers.{Accepts, Visits, VisitsWithin, Refuses}
use Rattle.grain_flat.specs.Flat.{code_with}
use Rattle.grain_flat.specs.RowFacts.{facts_by_rows, leads_of}
use Rattle.grain_flat.specs.declared.judge.Judge.{Judge}
use Rattle.grain_flat.specs.declared.judge.Rejection.{Rejection}
use Rattle.grain_flat.specs.declared.judge.Rejection.TheVariants as stops
use Rattle.grain_flat.specs.declared.records.CPools.{CPools}

-- what is judged with these chunks, without constants
abbrev pub judged_input : Judge → List Span → Input
judged_input j chunks = input_beside j.caps.0 [] j.code.now j.functions.now chunks (facts_by_rows j.rows.now) (leads_of j.rows.now)

-- what is verified without constants, which are tested by their rows
abbrev pub judged : ℕ → List ℕ → List Span → CPools → List Function → List Chain → List Arms → Input
judged caps bytes chunks p functions chains switches = record {
  code = code_with caps bytes p chains switches;
  consts = [];
  functions = functions;
  chunks = chunks;
}

-- why nothing is accepted, or that memory was refused
abbrev pub IsStop : ℕ → List ℕ → List Span → CPools → Rejection → Type 0
IsStop caps bytes chunks p stops.OutOfMemory = ⊤
IsStop caps bytes chunks p (stops.Refused r) = Refuses caps bytes chunks p r.chunk r.error

-- the same of what is judged
abbrev pub IsStopOf : Input → Rejection → Type 0
IsStopOf i stops.OutOfMemory = ⊤
IsStopOf i (stops.Refused r) = (IsAccepted i → ⊥) × FlawAt i r.chunk r.error

-- the answer is right about what is judged
pub record IsVerdictOf (i : Input) (result : Result (Vec ℕ Global) Rejection) : Type 0 where
  pub accepted : IfOk result (λ v. IsAccepted i × AreTyped i v.items × AreDeepest i v.items × AreSafe i v.items)
  pub refused : IfErr result (IsStopOf i)

-- the meter counts what accepted chunks reach, and of others no more than their starts
pub record IsMeteredOf (i : Input) (old new : ℕ) (result : Result (Vec ℕ Global) Rejection) : Type 0 where
  pub accepted : IfOk result (λ _. (n : ℕ) × AreReached i.code i.chunks n × HasCounted old new n)
  pub refused : IfErr result (λ _. (n : ℕ) × IsWithinAll i n × HasCounted old new n)

-- the answer is right about all with the flat form
pub record IsFlatVerdict (caps : ℕ) (bytes : List ℕ) (chunks : List Span) (p : CPools) (result : Result (Vec ℕ Global) Rejection) : Type 0 where
  pub accepted : IfOk result (λ v. Accepts caps bytes chunks p v.items)
  pub each : IfOk result (λ v. length v.items ≡ length chunks)
  pub refused : IfErr result (IsStop caps bytes chunks p)

-- the meter counts what the accepted chunks of all with the flat form reach, and of others no more than their starts
pub record IsFlatMetered (caps : ℕ) (bytes : List ℕ) (chunks : List Span) (p : CPools) (old new : ℕ) (result : Result (Vec ℕ Global) Rejection) : Type 0 where
  pub accepted : IfOk result (λ _. (n : ℕ) × Visits caps bytes chunks p n × HasCounted old new n)
  pub refused : IfErr result (λ _. (n : ℕ) × VisitsWithin bytes chunks n × HasCounted old new n)

-- functions are there exactly where some are counted
pub record AreSome (count : ℕ) (functions : List Function) : Type 0 where
  pub none : functions ≡ [] → count ≡ 0
  pub any : count ≡ 0 → functions ≡ []
