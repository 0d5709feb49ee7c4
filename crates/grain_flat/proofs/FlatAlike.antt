-- Operations find pools of one flat form alike.
use Rattle.std.proofs.Common.{◌≡◌, ℕ, List, [], ◌∷◌, ◌++◌, false, get_or, map, refl, subst, sym, ap, ◌∙◌}
use Rattle.std.specs.List.{AllZip, Contains, flat_map}
use Rattle.std.proofs.lemmas.List.Concat.{flat_map-cons}
use Rattle.grain_pools.specs.Dispatch.{Arms, Case, listed, arm_targets}
use Rattle.grain_rules.specs.Facts.{ChainFacts, chain_facts}
use Rattle.grain_rules.specs.Flow.{Falls}
use Rattle.grain_rules.specs.Rows.{does, flow_of, row}
use Rattle.grain_rules.specs.Setting.{Setting}
use Rattle.grain_pools.specs.declared.chain.Chain.{Chain}
use Rattle.grain_code.specs.declared.op.Op.{Op}
use Rattle.grain_code.specs.declared.op.Op.TheVariants as ops
use Rattle.grain_code.specs.declared.op.Receiver.TheVariants as receiver
use Rattle.grain_flat.specs.declared.records.CCase.{CCase}
use Rattle.grain_flat.specs.declared.records.CPools.{CPools}
use Rattle.grain_flat.specs.Flat.{AreChains, AreSwitches, arm_constants, case_row, case_rows, code_with, arm_range_targets}
use Rattle.grain_rules.proofs.Alike.{Alike, flow_leads}
use Rattle.grain_flat.proofs.ChainRows.{chains_are_by_rows}
use Rattle.grain_rules.proofs.Members.{appended, at_place, map_by_rows, mapped}
use Rattle.grain_flat.proofs.SwitchRows.{SameArms, same_arms}

-- what the rows of cases tell of a case
case_same : (f : Case → ℕ) (g : CCase → ℕ) → ((c : Case) → f c ≡ g (case_row c)) → (t u : Arms) → SameArms t u → (x : ℕ) → Contains (map f (listed t.cases)) x → Contains (map f (listed u.cases)) x
case_same f g by_row t u same x has =
    subst (λ ys. Contains ys x) (sym (map_by_rows f case_row g by_row (listed u.cases)))
    (mapped g (case_rows t) (case_rows u) (record { target = 0; constant = 0 }) same.cases x (subst (λ ys. Contains ys x) (map_by_rows f case_row g by_row (listed t.cases)) has))

-- where switches lead, and the constants of their cases
target_same : (t u : Arms) → SameArms t u → (x : ℕ) → Contains (arm_targets t) x → Contains (arm_targets u) x
target_same t u same x =
    appended (map (λ (c : Case). c.1.0) (listed t.cases) ++ arm_range_targets t) (t.otherwise ∷ []) (map (λ (c : Case). c.1.0) (listed u.cases) ++ arm_range_targets u) (u.otherwise ∷ []) x
    (
    appended (map (λ (c : Case). c.1.0) (listed t.cases)) (arm_range_targets t) (map (λ (c : Case). c.1.0) (listed u.cases)) (arm_range_targets u) x (case_same (λ c. c.1.0) (λ row. row.target) (λ c. refl) t u same x)
    (subst (λ ys. Contains ys x) same.ranges)
    )
    (subst (λ n. Contains (n ∷ []) x) same.otherwise)

pub constant_same : (t u : Arms) → SameArms t u → (x : ℕ) → Contains (arm_constants t) x → Contains (arm_constants u) x
constant_same t u same = case_same (λ c. c.1.1) (λ row. row.constant) (λ c. refl) t u same

-- pools of the flat form p: these chains and these switches
pub record AreOf (p : CPools) (chains : List Chain) (switches : List Arms) : Type 0 where
  pub chains_are : AreChains p.chains.now p.steps.now chains
  pub switches_are : AreSwitches p.switches.now p.cases.now p.ranges.now switches

abbrev pub setting_of : ℕ → CPools → List Chain → List Arms → Setting
setting_of caps p chains switches = (code_with caps [] p chains switches).setting

row_same : (caps : ℕ) (p : CPools) (cs ds : List Chain) (ts us : List Arms) → map chain_facts cs ≡ map chain_facts ds → (op : Op)
    → row (setting_of caps p cs ts) op ≡ row (setting_of caps p ds us) op
row_same caps p cs ds ts us same (ops.Chain h) =
    λ i. let k = get_or (map (λ (c : ChainFacts). c.takes) (same i)) h 0 in does k k 1 (get_or (map (λ (c : ChainFacts). c.asks) (same i)) h 0) Falls false
row_same caps p cs ds ts us same (ops.CallRef n a (receiver.Local slot) capture) = refl
row_same caps p cs ds ts us same (ops.CallRef n a (receiver.Named m) capture) = refl
row_same caps p cs ds ts us same (ops.CallRef n a receiver.This capture) = refl
row_same caps p cs ds ts us same op = refl

pub facts_same : (p : CPools) (cs ds : List Chain) (ts us : List Arms) → AreOf p cs ts → AreOf p ds us → map chain_facts cs ≡ map chain_facts ds
facts_same p cs ds ts us one other =
    sym (chains_are_by_rows p.chains.now p.steps.now cs one.chains_are) ∙ chains_are_by_rows p.chains.now p.steps.now ds other.chains_are

pub arms_same : (p : CPools) (cs ds : List Chain) (ts us : List Arms) → AreOf p cs ts → AreOf p ds us → AllZip SameArms ts us
arms_same p cs ds ts us one other =
    same_arms ts us one.switches_are.pieces other.switches_are.pieces (sym one.switches_are.rows_are ∙ other.switches_are.rows_are)
    (sym one.switches_are.cases_are ∙ other.switches_are.cases_are) one.switches_are.each other.switches_are.each
    (sym one.switches_are.ranges_are ∙ other.switches_are.ranges_are)

pub alike : (caps : ℕ) (p : CPools) (cs ds : List Chain) (ts us : List Arms) → AreOf p cs ts → AreOf p ds us → Alike (setting_of caps p cs ts) (setting_of caps p ds us) (map arm_targets ts) (map arm_targets us)
alike caps p cs ds ts us one other =
    record {
      caps = refl;
      rows = row_same caps p cs ds ts us (facts_same p cs ds ts us one other);
      leads = λ op. flow_leads (map arm_targets ts) (map arm_targets us) (at_place SameArms arm_targets arm_targets target_same ts us (arms_same p cs ds ts us one other)) (flow_of op);
      leads_back = λ op. flow_leads (map arm_targets us) (map arm_targets ts) (at_place SameArms arm_targets arm_targets target_same us ts (arms_same p ds cs us ts other one)) (flow_of op);
    }
