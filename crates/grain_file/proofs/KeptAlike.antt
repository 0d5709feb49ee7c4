-- Programs of which as much is kept are found alike by operations: their pools differ in the order of cases alone.
use Rattle.std.proofs.Common.{◌≡◌, ℕ, zero, suc, ◌+◌, ◌-◌, ◌<◌, Bool, true, false, inl, inr, List, [], ◌∷◌, ◌++◌, Option, Some, None, cond, get_or, length, map, refl, subst, sym, ap, ◌∙◌, arith}
use Rattle.std.specs.Prelude.{nat_lt, if◌then◌else◌}
use Rattle.std.specs.List.{AllZip, Contains, flat_map}
use Rattle.std.specs.Option.{option_to_list}
use Rattle.std.proofs.lemmas.Bool.{cases_Bool}
use Rattle.std.proofs.lemmas.List.{length-map}
use Rattle.std.proofs.lemmas.List.Elements.{Contains-append_cases, Contains-append_left, Contains-append_right}
use Rattle.grain_base.specs.CapBits.{THIS, INDEXING, PROPERTY, METHOD}
use Rattle.grain_base.specs.declared.value.Dynamic.{Dynamic}
use Rattle.grain_code.specs.declared.field.Pool.TheVariants as pools
use Rattle.grain_code.specs.declared.op.Op.{Op}
use Rattle.grain_pools.specs.Dispatch.{Arms, Case, arms, arm_targets, listed}
use Rattle.grain_pools.specs.declared.chain.Chain.{Chain}
use Rattle.grain_pools.specs.declared.chain.Root.{Root}
use Rattle.grain_pools.specs.declared.chain.Root.TheVariants as roots
use Rattle.grain_pools.specs.declared.chain.Step.{Step}
use Rattle.grain_pools.specs.declared.chain.Step.TheVariants as steps
use Rattle.grain_pools.specs.declared.chain.Tail.{Tail}
use Rattle.grain_pools.specs.declared.chain.Tail.TheVariants as tails
use Rattle.grain_pools.specs.declared.switch.Switch.{Switch}
use Rattle.grain_pools.specs.declared.switch.SwitchRange.{SwitchRange}
use Rattle.grain_pools.specs.Chain.{assigns, roots_on_stack}
use Rattle.grain_rules.specs.Capabilities.{joined, name_caps, root_caps, step_caps}
use Rattle.grain_rules.specs.Code.{switch_targets}
use Rattle.grain_rules.specs.Effects.{targets}
use Rattle.grain_rules.specs.Facts.{ChainFacts, Entry, Mention, Operand, case_consts, chain_facts, root_mentions, step_mentions, tail_mentions}
use Rattle.grain_rules.specs.Rows.{flow_of, row}
use Rattle.grain_rules.specs.Setting.{Setting, with_caps}
use Rattle.grain_code.specs.declared.field.Pool.TheVariants.{Names, OpAssignments}
use Rattle.grain_rules.proofs.Alike.{Alike, flow_leads, row_alike}
use Rattle.grain_rules.proofs.Members.{appended, at_place, flat_by_rows, map_by_rows, mapped}
use Rattle.grain_rules.proofs.TestedAlike.{SameSizes, TestedAlike, tested_alike}
use Rattle.grain_format.specs.Cases.{CaseParts, case_parts, ordered, put_case}
use Rattle.grain_format.specs.Chains.{ChainParts, RootParts, StepParts, chain_parts, root_parts, step_parts, tail_parts}
use Rattle.grain_format.specs.Switches.{RangeParts, SwitchParts, range_parts, switch_parts}
use Rattle.grain.specs.Program.{Program, setting_of}
use Rattle.grain_file.specs.ProgramFile.{Kept, kept}

-- ---- chains

abbrev on_stack : RootParts → Bool
on_stack (inl local) = false
on_stack (inr (inl named)) = false
on_stack (inr (inr (inl this))) = false
on_stack (inr (inr (inr temporary))) = true

abbrev asked_by_root : RootParts → ℕ
asked_by_root (inl local) = 0
asked_by_root (inr (inl named)) = 0
asked_by_root (inr (inr (inl this))) = THIS
asked_by_root (inr (inr (inr temporary))) = 0

abbrev named_by_root : RootParts → List Mention
named_by_root (inl local) = Entry Names local.1 ∷ []
named_by_root (inr (inl named)) = Entry Names named.0 ∷ []
named_by_root (inr (inr (inl this))) = []
named_by_root (inr (inr (inr temporary))) = []

abbrev asked_by_step : StepParts → ℕ
asked_by_step (inl index) = INDEXING
asked_by_step (inr (inl property)) = PROPERTY
asked_by_step (inr (inr method)) = METHOD

abbrev named_by_step : ℕ → StepParts → List Mention
named_by_step operands (inl index) = Operand operands index.0 ∷ []
named_by_step operands (inr (inl property)) = Entry Names property.0 ∷ Entry Names property.1.0 ∷ Entry Names property.1.1.0 ∷ []
named_by_step operands (inr (inr method)) = Entry Names method.0 ∷ cond (nat_lt 0 method.1.0) (Operand operands (method.1.1.0 + method.1.0 - 1) ∷ []) []

abbrev does_assign : Option (Option ℕ) → Bool
does_assign None = false
does_assign (Some op) = true

abbrev named_by_tail : Option (Option ℕ) → List Mention
named_by_tail None = []
named_by_tail (Some op) = map (Entry OpAssignments) (option_to_list op)

-- the facts of a chain, of what is kept of it
abbrev facts_of_parts : ChainParts → ChainFacts
facts_of_parts c = record {
  takes = c.1.1.1 + cond (on_stack c.0) 1 0 + cond (does_assign c.1.1.0) 1 0;
  asks = joined (asked_by_root c.0) (map asked_by_step c.1.0);
  mentions = named_by_root c.0 ++ flat_map (named_by_step c.1.1.1) c.1.0 ++ named_by_tail c.1.1.0;
}

root_stack : (r : Root) → roots_on_stack r ≡ on_stack (root_parts r)
root_stack (roots.Local slot n) = refl
root_stack (roots.Named n pos) = refl
root_stack (roots.This pos) = refl
root_stack roots.Temporary = refl

root_asks : (r : Root) → root_caps r ≡ asked_by_root (root_parts r)
root_asks (roots.Local slot n) = refl
root_asks (roots.Named n pos) = refl
root_asks (roots.This pos) = refl
root_asks roots.Temporary = refl

root_names : (r : Root) → root_mentions r ≡ named_by_root (root_parts r)
root_names (roots.Local slot n) = refl
root_names (roots.Named n pos) = refl
root_names (roots.This pos) = refl
root_names roots.Temporary = refl

step_asks : (s : Step) → step_caps s ≡ asked_by_step (step_parts s)
step_asks (steps.Index operand flags pos bracket) = refl
step_asks (steps.Property name getter setter flags pos) = refl
step_asks (steps.Method name argc operand flags pos) = refl

step_names : (operands : ℕ) (s : Step) → step_mentions operands s ≡ named_by_step operands (step_parts s)
step_names operands (steps.Index operand flags pos bracket) = refl
step_names operands (steps.Property name getter setter flags pos) = refl
step_names operands (steps.Method name argc operand flags pos) = refl

tail_assigns : (t : Tail) → assigns t ≡ does_assign (tail_parts t)
tail_assigns tails.Read = refl
tail_assigns (tails.Assign op) = refl

tail_names : (t : Tail) → tail_mentions t ≡ named_by_tail (tail_parts t)
tail_names tails.Read = refl
tail_names (tails.Assign op) = refl

chain_read : (c : Chain) → chain_facts c ≡ facts_of_parts (chain_parts c)
chain_read c = λ i. record {
  takes = c.operands + cond (root_stack c.root i) 1 0 + cond (tail_assigns c.tail i) 1 0;
  asks = joined (root_asks c.root i) (map_by_rows step_caps step_parts asked_by_step step_asks c.steps.items i);
  mentions = root_names c.root i ++ flat_by_rows (step_mentions c.operands) step_parts (named_by_step c.operands) (step_names c.operands) c.steps.items i ++ tail_names c.tail i;
}

-- ---- switches

added : (c : CaseParts) (cs : List CaseParts) (x : CaseParts) → Contains (c ∷ cs) x → Contains (put_case c cs) x
added c [] x has = has
added c (d ∷ ds) x has = elim (cases_Bool (nat_lt c.0 d.0)) [
  | inl e ↦ rw e has
  | inr e ↦ rw e (elim (Contains-append_cases (c ∷ []) (d ∷ ds) x has) [
    | inl first ↦ Contains-append_right (d ∷ []) (put_case c ds) x (added c ds x (Contains-append_left (c ∷ []) ds x first))
    | inr rest ↦ elim (Contains-append_cases (d ∷ []) ds x rest) [
      | inl next ↦ Contains-append_left (d ∷ []) (put_case c ds) x next
      | inr later ↦ Contains-append_right (d ∷ []) (put_case c ds) x (added c ds x (Contains-append_right (c ∷ []) ds x later))
    ]
  ])
]

taken : (c : CaseParts) (cs : List CaseParts) (x : CaseParts) → Contains (put_case c cs) x → Contains (c ∷ cs) x
taken c [] x has = has
taken c (d ∷ ds) x has = elim (cases_Bool (nat_lt c.0 d.0)) [
  | inl e ↦ rw e at has
  | inr e ↦ let there : Contains (d ∷ put_case c ds) x = rw e at has in
      elim (Contains-append_cases (d ∷ []) (put_case c ds) x there) [
        | inl first ↦ Contains-append_right (c ∷ []) (d ∷ ds) x (Contains-append_left (d ∷ []) ds x first)
        | inr rest ↦ elim (Contains-append_cases (c ∷ []) ds x (taken c ds x rest)) [
          | inl this ↦ Contains-append_left (c ∷ []) (d ∷ ds) x this
          | inr later ↦ Contains-append_right (c ∷ []) (d ∷ ds) x (Contains-append_right (d ∷ []) ds x later)
        ]
      ]
]

-- what is put in order has the same cases
in_order : (cs : List CaseParts) (x : CaseParts) → Contains cs x → Contains (ordered cs) x
unfolding ordered
in_order [] x has = has
in_order (c ∷ cs) x has = added c (ordered cs) x (elim (Contains-append_cases (c ∷ []) cs x has) [
  | inl first ↦ Contains-append_left (c ∷ []) (ordered cs) x first
  | inr rest ↦ Contains-append_right (c ∷ []) (ordered cs) x (in_order cs x rest)
])

of_order : (cs : List CaseParts) (x : CaseParts) → Contains (ordered cs) x → Contains cs x
unfolding ordered
of_order [] x has = has
of_order (c ∷ cs) x has = elim (Contains-append_cases (c ∷ []) (ordered cs) x (taken c (ordered cs) x has)) [
  | inl first ↦ Contains-append_left (c ∷ []) cs x first
  | inr rest ↦ Contains-append_right (c ∷ []) cs x (of_order cs x rest)
]

-- switches of which as much is kept
abbrev SameParts : List Dynamic → List Dynamic → Switch → Switch → Type 0
SameParts consts others s t = switch_parts consts s ≡ switch_parts others t

module _ (consts others : List Dynamic) where
  abbrev cases_in : Switch → List Case
  cases_in s = listed (arms s).cases

  same_cases : (s t : Switch) → SameParts consts others s t → (x : CaseParts) → Contains (map case_parts (cases_in s)) x → Contains (map case_parts (cases_in t)) x
  same_cases s t same x has =
      of_order (map case_parts (cases_in t)) x (subst (λ (cs : List CaseParts). Contains cs x) (ap (λ (k : SwitchParts). k.0.1) same) (in_order (map case_parts (cases_in s)) x has))

  -- what is read of each case
  shared_of : (f : Case → ℕ) (g : CaseParts → ℕ) → ((c : Case) → f c ≡ g (case_parts c)) → (s t : Switch) → SameParts consts others s t → (x : ℕ) → Contains (map f (cases_in s)) x → Contains (map f (cases_in t)) x
  shared_of f g by_parts s t same x has =
      subst (λ ys. Contains ys x) (sym (map_by_rows f case_parts g by_parts (cases_in t)))
      (mapped g (map case_parts (cases_in s)) (map case_parts (cases_in t)) (0, 0) (same_cases s t same) x (subst (λ ys. Contains ys x) (map_by_rows f case_parts g by_parts (cases_in s)) has))

  same_constants : (s t : Switch) → SameParts consts others s t → (x : ℕ) → Contains (case_consts s) x → Contains (case_consts t) x
  same_constants s t same x has = shared_of (λ c. c.1.1) (λ c. c.0) (λ c. refl) s t same x has

  abbrev range_targets : Switch → List ℕ
  range_targets s = map (λ (r : SwitchRange). r.target) s.ranges.items

  same_ranges : (s t : Switch) → SameParts consts others s t → range_targets s ≡ range_targets t
  same_ranges s t same =
      map_by_rows (λ (r : SwitchRange). r.target) range_parts (λ (r : RangeParts). r.1.1.1) (λ r. refl) s.ranges.items
      ∙ ap (λ (k : SwitchParts). map (λ (r : RangeParts). r.1.1.1) k.1.0) same
      ∙ sym (map_by_rows (λ (r : SwitchRange). r.target) range_parts (λ (r : RangeParts). r.1.1.1) (λ r. refl) t.ranges.items)

  same_targets : (s t : Switch) → SameParts consts others s t → (x : ℕ) → Contains (switch_targets s) x → Contains (switch_targets t) x
  same_targets s t same x =
      appended (map (λ (c : Case). c.1.0) (cases_in s) ++ range_targets s) (s.default ∷ []) (map (λ (c : Case). c.1.0) (cases_in t) ++ range_targets t) (t.default ∷ []) x
      (
      appended (map (λ (c : Case). c.1.0) (cases_in s)) (range_targets s) (map (λ (c : Case). c.1.0) (cases_in t)) (range_targets t) x (shared_of (λ c. c.1.0) (λ c. c.1) (λ c. refl) s t same x)
      (subst (λ ys. Contains ys x) (same_ranges s t same))
      )
      (subst (λ n. Contains (n ∷ []) x) (ap (λ (k : SwitchParts). k.1.1) same))

  zipped : (ss ts : List Switch) → map (switch_parts consts) ss ≡ map (switch_parts others) ts → AllZip (SameParts consts others) ss ts
  zipped [] [] e = tt
  zipped [] (t ∷ ts) e = absurd cc
  zipped (s ∷ ss) [] e = absurd cc
  zipped (s ∷ ss) (t ∷ ts) e = (cc, zipped ss ts cc)

-- ---- programs

module _ (p q : Program) (same : kept p ≡ kept q) where
  pub same_caps : p.caps.0 ≡ q.caps.0
  same_caps = ap (λ (k : Kept). k.0.0) same

  same_switches : map (switch_parts p.consts) p.switches ≡ map (switch_parts q.consts) q.switches
  same_switches = ap (λ (k : Kept). k.1.0.1.1.1.1.1) same

  same_consts : length p.consts ≡ length q.consts
  same_consts = sym (length-map p.consts _) ∙ ap (λ (k : Kept). length k.1.0.1.0) same ∙ length-map q.consts _

  same_names : map name_caps p.names ≡ map name_caps q.names
  same_names = ap (λ (k : Kept). map name_caps k.1.0.0) same

  same_tokens : length p.tokens ≡ length q.tokens
  same_tokens = sym (length-map p.tokens _) ∙ ap (λ (k : Kept). length k.1.0.1.1.0) same ∙ length-map q.tokens _

  same_assign_ops : length p.assign_ops ≡ length q.assign_ops
  same_assign_ops = sym (length-map p.assign_ops _) ∙ ap (λ (k : Kept). length k.1.0.1.1.1.0) same ∙ length-map q.assign_ops _

  same_residuals : p.residuals ≡ q.residuals
  same_residuals = ap (λ (k : Kept). k.1.1.1.1) same

  same_chains : map chain_facts p.chains ≡ map chain_facts q.chains
  same_chains =
      map_by_rows chain_facts chain_parts facts_of_parts chain_read p.chains
      ∙ ap (λ (k : Kept). map facts_of_parts k.1.0.1.1.1.1.0) same
      ∙ sym (map_by_rows chain_facts chain_parts facts_of_parts chain_read q.chains)

  -- the setting of the one with the cases of the other
  abbrev between : Setting
  between = with_caps q.caps.0 (record {
    consts = length q.consts;
    names = map name_caps q.names;
    tokens = length q.tokens;
    assign_ops = length q.assign_ops;
    residuals = q.residuals;
    chains = map chain_facts q.chains;
    cases = map case_consts p.switches;
  })

  near : setting_of p ≡ between
  near = λ i. with_caps (same_caps i) (record {
    consts = same_consts i;
    names = same_names i;
    tokens = same_tokens i;
    assign_ops = same_assign_ops i;
    residuals = same_residuals i;
    chains = same_chains i;
    cases = map case_consts p.switches;
  })

  rows_alike : (op : Op) → row (setting_of p) op ≡ row (setting_of q) op
  rows_alike op =
      ap (λ (s : Setting). row s op) near
      ∙ row_alike q.caps.0 (length q.consts) (map name_caps q.names) (length q.tokens) (length q.assign_ops) q.residuals (map chain_facts q.chains) (map case_consts p.switches) (map case_consts q.switches) op

  same_sizes : SameSizes (setting_of p) (setting_of q)
  same_sizes pools.Chains = ap length same_chains
  same_sizes pools.Switches = length-map p.switches case_consts ∙ sym (length-map p.switches _) ∙ ap length same_switches ∙ length-map q.switches _ ∙ sym (length-map q.switches case_consts)
  same_sizes pools.Constants = same_consts
  same_sizes pools.Names = ap length same_names
  same_sizes pools.Operators = same_tokens
  same_sizes pools.OpAssignments = same_assign_ops
  same_sizes pools.Fragments = same_residuals
  same_sizes pools.SyntaxSites = refl

  shares_cases : (w x : ℕ) → Contains (get_or (map case_consts p.switches) w []) x → Contains (get_or (map case_consts q.switches) w []) x
  shares_cases = at_place (SameParts p.consts q.consts) case_consts case_consts (same_constants p.consts q.consts) p.switches q.switches (zipped p.consts q.consts p.switches q.switches same_switches)

  leads_alike : (op : Op) (x : ℕ) → Contains (targets (map switch_targets p.switches) op) x → Contains (targets (map switch_targets q.switches) op) x
  leads_alike op = flow_leads (map switch_targets p.switches) (map switch_targets q.switches)
      (at_place (SameParts p.consts q.consts) switch_targets switch_targets (same_targets p.consts q.consts) p.switches q.switches (zipped p.consts q.consts p.switches q.switches same_switches)) (flow_of op)

pub kept_alike : (p q : Program) → kept p ≡ kept q → Alike (setting_of p) (setting_of q) (map switch_targets p.switches) (map switch_targets q.switches)
kept_alike p q same = record {
  caps = same_caps p q same;
  rows = rows_alike p q same;
  leads = leads_alike p q same;
  leads_back = leads_alike q p (sym same);
}

pub kept_tested : (p q : Program) → kept p ≡ kept q → TestedAlike (setting_of p) (setting_of q)
kept_tested p q same =
    tested_alike (setting_of p) (setting_of q) (same_consts p q same) (same_sizes p q same) (same_chains p q same) (shares_cases p q same) (shares_cases q p (sym same))
