-- What `verify` is given of a program, and what its indices find.
use Rattle.std.proofs.Common.{◌≡◌, ℕ, ◌<◌, zero, suc, List, [], ◌∷◌, length, map, refl, sym, subst, arith}
use Rattle.std.specs.List.{All, AllByRecursion, slice_get}
use Rattle.std.specs.Option.{IsSome}
use Rattle.std.proofs.lemmas.List.{length-map}
use Rattle.std.proofs.lemmas.Option.{slice_get-get_or}
use Rattle.grain_base.specs.declared.caps.Caps.{Caps}
use Rattle.grain_base.specs.declared.value.Dynamic.{Dynamic}
use Rattle.grain_code.specs.Span.{Span}
use Rattle.grain_code.specs.declared.field.Pool.TheVariants.{Constants, Names, Operators, OpAssignments, Fragments, Chains, Switches, SyntaxSites}
use Rattle.grain_code.specs.declared.function.Function.{Function}
use Rattle.grain_code.specs.declared.op.Op.{Op}
use Rattle.grain_rules.specs.Accepted.{IsAccepted, input}
use Rattle.grain_rules.specs.Code.{switch_targets}
use Rattle.grain_rules.specs.Indices.{Indexed, IsBounded, cases_of, mentions_of}
use Rattle.grain.specs.Lookups.{AreFound, FindsIndices, IsFound}
use Rattle.grain.specs.Program.{Program, chunks_of, input_of, setting_of}
use Rattle.grain_rules.specs.Capabilities.{name_caps}
use Rattle.grain_rules.specs.Facts.{Mention, Entry, Operand, case_consts, chain_facts, facts_with}
use Rattle.grain_rules.specs.Setting.{with_caps}
use Rattle.grain_rules.specs.declared.pools.Pools.{Pools}
use Rattle.grain_rules.proofs.ChainTests.{within_pools}

-- the pools of a program
pub record ArePools (p : Program) (pools : Pools) : Type 0 where
  pub consts : pools.consts ≡ length p.consts
  pub names : pools.names.now ≡ p.names
  pub tokens : pools.tokens ≡ length p.tokens
  pub assign_ops : pools.assign_ops ≡ length p.assign_ops
  pub residuals : pools.residuals ≡ p.residuals
  pub chains : pools.chains.now ≡ p.chains
  pub switches : pools.switches.now ≡ p.switches

pub same_input : (p : Program) (caps : Caps) (consts : List Dynamic) (bytes : List ℕ) (functions : List Function) (chunks : List Span) (pools : Pools) → caps ≡ p.caps
    → consts ≡ p.consts → bytes ≡ p.code → functions ≡ p.functions → chunks ≡ chunks_of p → ArePools p pools → input caps consts bytes functions chunks pools ≡ input_of p
same_input p caps consts bytes functions chunks pools e a b f g h = λ i. record {
  code = record {
    setting = with_caps (e i).0 (facts_with (h.consts i) (h.names i) (h.tokens i) (h.assign_ops i) (h.residuals i) (h.chains i) (h.switches i));
    bytes = b i;
    switches = map switch_targets (h.switches i);
  };
  consts = a i;
  functions = f i;
  chunks = g i;
}

finds_there : {X : Type 0} (xs : List X) (i : ℕ) → i < length xs → IsSome (slice_get xs i)
finds_there [] i l = absurd (omega arith)
finds_there (x ∷ xs) i l = subst IsSome (sym (slice_get-get_or (x ∷ xs) i x l)) refl

bounded_found : (p : Program) (m : Mention) → IsBounded (setting_of p) m → IsFound p m
bounded_found p (Entry Constants x) h = finds_there p.consts x h
bounded_found p (Entry Names x) h = finds_there p.names x (subst (λ n. x < n) (length-map p.names name_caps) h)
bounded_found p (Entry Operators x) h = finds_there p.tokens x h
bounded_found p (Entry OpAssignments x) h = finds_there p.assign_ops x h
bounded_found p (Entry Fragments x) h = h
bounded_found p (Entry Chains x) h = finds_there p.chains x (subst (λ n. x < n) (length-map p.chains chain_facts) h)
bounded_found p (Entry Switches x) h = finds_there p.switches x (subst (λ n. x < n) (length-map p.switches case_consts) h)
bounded_found p (Entry SyntaxSites x) h = absurd (omega arith)
bounded_found p (Operand operands place) h = tt

each : {X : Type 0} (P Q : X → Type 0) (xs : List X) → ((x : X) → P x → Q x) → AllByRecursion P xs → All Q xs
each P Q [] f h k d l = absurd (omega arith)
each P Q (x ∷ xs) f h zero d l = f x h.0
each P Q (x ∷ xs) f h (suc k) d l = each P Q xs f h.1 k d (omega arith)

indices_found : (p : Program) (op : Op) → Indexed (setting_of p) op → AreFound p op
indices_found p op h = record {
  entries = each (IsBounded (setting_of p)) (IsFound p) (mentions_of (setting_of p) op) (bounded_found p) (within_pools (setting_of p) op h).entries;
  cases = each (λ x. x < length p.consts) (λ x. IsSome (slice_get p.consts x)) (cases_of (setting_of p) op) (finds_there p.consts) h.cases;
}

-- each index that an instruction of an accepted program names is found
pub accepted_finds : (p : Program) → IsAccepted (input_of p) → FindsIndices p
accepted_finds p h = (h.code.0, h.code.1, λ k d l. indices_found p _ (h.code.2 k d l))
