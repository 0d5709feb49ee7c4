-- What is made of a script can be built.
use Rattle.std.proofs.Common.{◌≡◌, ℕ, ◌≤◌, inl, inr, zero, suc, List, [], ◌∷◌, length, map, get_or, take, Some, refl, sym, ap, subst, arith}
use Rattle.std.specs.Prelude.{slice_get}
use Rattle.std.specs.List.{All, Contains}
use Rattle.std.proofs.lemmas.List.{get_or_default, get_or_past}
use Rattle.std.proofs.lemmas.List.Elements.{All-contains, All-take, Contains-get_or}
use Rattle.std.proofs.lemmas.Bool.{cases_lt}
use Rattle.std.proofs.lemmas.Option.{none-some, slice_get-get_or}
use Rattle.grain_base.specs.declared.caps.Caps.{Caps}
use Rattle.grain_code.specs.Assembly.{CanAssemble}
use Rattle.grain_code.specs.Span.{Span}
use Rattle.grain_code.specs.declared.op.Op.{Op}
use Rattle.grain_pools.specs.Chain.{consumed}
use Rattle.grain_pools.specs.declared.chain.Chain.{Chain}
use Rattle.grain_rules.specs.Accepted.{ConstantPasses, IsAccepted}
use Rattle.grain_rules.specs.ByIndex.{IsCut, LeadWithin, code_by_index}
use Rattle.grain_rules.specs.Capabilities.{Allows}
use Rattle.grain_rules.specs.Code.{switch_targets}
use Rattle.grain_rules.specs.Facts.{ChainFacts, chain_facts}
use Rattle.grain_rules.specs.Indices.{Indexed}
use Rattle.grain_rules.specs.Rows.{caps_of}
use Rattle.grain_rules.specs.Setting.{Setting, with_caps}
use Rattle.grain_rules.specs.Typing.{HasTyping}
use Rattle.grain.specs.Build.{CanBuild, draft, setting_with, span_of}
use Rattle.grain.specs.declared.builder.Cut.{Cut}
use Rattle.grain.specs.declared.builder.Head.{Head}
use Rattle.grain.specs.declared.program.Parts.{Parts}
use Rattle.grain_builder.specs.Finished.{AreTypedCuts, LeadAmong}
use Rattle.rhai_compile.specs.Capabilities.{every_capability}
use Rattle.rhai_compile.specs.Laid.{IsLaidOut}
use Rattle.grain.specs.Program.{Program, input_of}
use Rattle.grain.proofs.BuildAcceptance.{accepted_there, indexed_here}
use Rattle.rhai_compile.proofs.AllAllowed.{all_allowed}

takes_at : (chains : List Chain) (h : ℕ) (c : Chain) → slice_get chains h ≡ Some c → get_or (map (λ (f : ChainFacts). f.takes) (map chain_facts chains)) h 0 ≡ consumed c
takes_at [] h c e = absurd (none-some c e)
takes_at (x ∷ chains) zero c e = ap consumed (let h : x ≡ c = cc in h)
takes_at (x ∷ chains) (suc h) c e = takes_at chains h c e

-- switches that lead nowhere else lead no further
leads_within : (n : ℕ) (leads tables : List (List ℕ)) → LeadAmong leads tables → LeadWithin n tables → LeadWithin n leads
leads_within n leads tables among within w d l i e m =
    let t : List ℕ = get_or leads w d in
    let here : get_or leads w d ≡ get_or leads w [] = get_or_default leads w d [] l in
    let has : Contains (get_or tables w []) (get_or t i e) = among w (get_or t i e) (subst (λ (x : List ℕ). Contains x (get_or t i e)) here (Contains-get_or t i e m)) in
    elim (cases_lt w (length tables)) [
      | inl inside ↦ All-contains (λ (x : ℕ). x ≤ n) (get_or tables w []) (get_or t i e) (within w [] inside) has
      | inr past ↦ absurd (let none : Contains {X = ℕ} [] (get_or t i e) = subst (λ (x : List ℕ). Contains x (get_or t i e)) (get_or_past tables w [] past) has in let f = none.1 in omega arith)
    ]

pub can_build : (caps : Caps) (ops : List Op) (cuts : List Cut) (heads : List Head) (parts : Parts) (chunks : List Span) (tables : List (List ℕ)) (m : ℕ)
    → caps.0 ≡ every_capability
    → AreTypedCuts ops parts.chains.items tables chunks
    → All (IsCut (length ops)) chunks
    → LeadWithin (length ops) tables
    → map span_of cuts ≡ take m chunks
    → CanAssemble ops
    → LeadAmong (map switch_targets parts.switches.items) tables
    → All (ConstantPasses every_capability) parts.consts.items
    → All (Indexed (setting_with caps parts)) ops
    → CanBuild (draft caps ops cuts heads parts)
can_build caps ops cuts heads parts chunks tables m all typed are within taken can among constants indexed =
    let s : Setting = setting_with caps parts in
    let leads : List (List ℕ) = map switch_targets parts.switches.items in
    let allowed : (op : Op) → Allows s.caps (caps_of s op) =
    subst (λ (n : ℕ). (op : Op) → Allows n (caps_of (with_caps n s.facts) op)) (sym all)
    (all_allowed (length parts.consts.items) parts.names (length parts.tokens.items) (length parts.assign_ops.items) parts.residuals parts.chains.items parts.switches.items) in
    record {
      lays = record {
        cuts = subst (All (IsCut (length ops))) (sym taken) (All-take (IsCut (length ops)) m chunks are);
        ops = can;
        switches = leads_within (length ops) leads tables among within;
      };
      constants = subst (λ (n : ℕ). All (ConstantPasses n) parts.consts.items) (sym all) constants;
      indexed = indexed;
      functions = λ some. subst (λ (n : ℕ). Allows n 1) (sym all) refl;
      typed =
          let has : Span → Type 0 = λ (cut : Span). HasTyping (code_by_index s ops leads) cut cut.max_stack in
          let whole : All has chunks = λ k d l. typed s leads k (get_or chunks k d) (takes_at parts.chains.items) allowed among (slice_get-get_or chunks k d l) in
          subst (All has) (sym taken) (All-take has m chunks whole);
    }

-- a program that is laid of them is accepted, if each index of its code leads into its pool
pub laid_accepted : (ops : List Op) (cuts : List Cut) (heads : List Head) (parts : Parts) (p : Program) → IsLaidOut ops cuts heads parts p
    → (chunks : List Span) (tables : List (List ℕ)) (m : ℕ)
    → AreTypedCuts ops parts.chains.items tables chunks
    → All (IsCut (length ops)) chunks
    → LeadWithin (length ops) tables
    → map span_of cuts ≡ take m chunks
    → LeadAmong (map switch_targets parts.switches.items) tables
    → All (ConstantPasses every_capability) parts.consts.items
    → IsAccepted (input_of p)
laid_accepted ops cuts heads parts p h chunks tables m typed are within taken among constants =
    let d = draft h.caps ops cuts heads parts in
    accepted_there d p h.lays h.laid
    (can_build h.caps ops cuts heads parts chunks tables m h.every typed are within taken h.lays.ops among constants (indexed_here d p h.lays h.laid h.indexed))
