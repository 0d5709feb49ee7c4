-- No reason stands against a program exactly where it is writable.
use Rattle.std.proofs.Common.{◌≡◌, ℕ, zero, suc, Bool, true, false, List, [], ◌∷◌, map, Option, None, Some, refl, sym, ap, ◌∙◌, inl, inr}
use Rattle.std.specs.Prelude.{◌↔◌}
use Rattle.std.specs.List.{AllByRecursion, list_all}
use Rattle.grain_base.specs.declared.value.Dynamic.{Dynamic}
use Rattle.grain_pools.specs.Dispatch.{arms, listed}
use Rattle.grain_pools.specs.declared.switch.Switch.{Switch}
use Rattle.grain.specs.Program.{Program, places_of}
use Rattle.grain_format.specs.declared.error.Unkept.{Unkept}
use Rattle.grain_format.specs.Reading.{or_refused}
use Rattle.grain_format.specs.Refusals.{counted_refusal, optional_refusal}
use Rattle.grain_format.specs.Functions.{FunctionParts, function_format}
use Rattle.grain_base.specs.Tokens.{TokenParts, token_parts}
use Rattle.grain_format.specs.Tokens.{AssignOpParts, assign_op_parts, token_format, assign_op_format}
use Rattle.grain_bytecode.specs.Positions.{Place}
use Rattle.grain_format.specs.Chains.{RootParts, StepParts, ChainParts, chain_parts, root_format, step_format, tail_format, chain_format, place_format}
use Rattle.grain_format.specs.Switches.{case_format, key_refusal, range_format, switch_parts, switch_refusal}
use Rattle.grain_format.specs.Cases.{is_keyed}
use Rattle.grain_format.specs.Form.{forms, value_refusal}
use Rattle.grain_file.specs.ProgramFile.{CodeParts, code_format, pools_format, rest_format, positions_format, versioned_format, body_format, file_format, residuals_refusal, kept, refusal_of}
use Rattle.grain_file.specs.Writable.{IsWritableProgram}

-- ---- reasons of parts

or_none : (a b : Option Unkept) → or_refused a b ≡ None → (a ≡ None) × (b ≡ None)
or_none None b e = (refl, e)
or_none (Some r) b e = absurd cc

none_or : (a b : Option Unkept) → a ≡ None → b ≡ None → or_refused a b ≡ None
none_or a b p q = rw p q

module _ {A B : Type 0} (refusal : B → Option Unkept) (view : A → B) (P : A → Type 0) where
  each_none : ((x : A) → refusal (view x) ≡ None → P x) → (xs : List A) → counted_refusal refusal (map view xs) ≡ None → AllByRecursion P xs
  each_none one [] e = tt
  each_none one (x ∷ xs) e = let p = or_none (refusal (view x)) (counted_refusal refusal (map view xs)) e in (one x p.0, each_none one xs p.1)

  none_each : ((x : A) → P x → refusal (view x) ≡ None) → (xs : List A) → AllByRecursion P xs → counted_refusal refusal (map view xs) ≡ None
  none_each one [] all = refl
  none_each one (x ∷ xs) all = none_or (refusal (view x)) (counted_refusal refusal (map view xs)) (one x all.0) (none_each one xs all.1)

always : {A : Type 0} (refusal : A → Option Unkept) → ((x : A) → refusal x ≡ None) → (xs : List A) → counted_refusal refusal xs ≡ None
always refusal none [] = refl
always refusal none (x ∷ xs) = none_or (refusal x) (counted_refusal refusal xs) (none x) (always refusal none xs)

-- ---- fields that are always kept

numbers_kept : (ns : List ℕ) → counted_refusal (λ (n : ℕ). None) ns ≡ None
numbers_kept ns = always (λ (n : ℕ). None) (λ n. refl) ns

texts_kept : (names : List (List ℕ)) → counted_refusal (λ (b : List ℕ). None) names ≡ None
texts_kept names = always (λ (b : List ℕ). None) (λ b. refl) names

function_kept : (f : FunctionParts) → function_format.refusal f ≡ None
function_kept (name, (params, (access, (None, chunk)))) = rw (numbers_kept params) refl
function_kept (name, (params, (access, (Some this, chunk)))) = rw (numbers_kept params) refl

code_kept : (k : CodeParts) → code_format.refusal k ≡ None
unfolding code_format
code_kept k = always function_format.refusal function_kept k.1.1.1.1

token_kept : (t : TokenParts) → token_format.refusal t ≡ None
token_kept (inl text) = refl
token_kept (inr tag) = refl

assign_op_kept : (a : AssignOpParts) → assign_op_format.refusal a ≡ None
assign_op_kept (a, (n, (b, m))) = rw (token_kept a, token_kept b) refl

tail_kept : (o : Option (Option ℕ)) → tail_format.refusal o ≡ None
tail_kept None = refl
tail_kept (Some None) = refl
tail_kept (Some (Some n)) = refl

-- ---- chains

pub place_kept : (o : Place) → place_format.refusal o ≡ None
place_kept None = refl
place_kept (Some place) = refl

places_kept : (o : Option (List Place)) → positions_format.refusal o ≡ None
places_kept None = refl
places_kept (Some places) = always place_format.refusal place_kept places

root_kept : (r : RootParts) → root_format.refusal r ≡ None
root_kept (inl local) = refl
root_kept (inr (inl (name, place))) = place_kept place
root_kept (inr (inr (inl place))) = place_kept place
root_kept (inr (inr (inr u))) = refl

step_kept : (s : StepParts) → step_format.refusal s ≡ None
step_kept (inl (operand, (flags, (place, bracket)))) = rw (place_kept place, place_kept bracket) refl
step_kept (inr (inl (name, (getter, (setter, (flags, place)))))) = rw (place_kept place) refl
step_kept (inr (inr (name, (argc, (operand, (flags, place)))))) = rw (place_kept place) refl

chain_kept : (c : ChainParts) → chain_format.refusal c ≡ None
chain_kept (root, (steps, (tail, operands))) = rw (root_kept root, always step_format.refusal step_kept steps, tail_kept tail) refl

-- ---- switches

is_true : (b : Bool) → key_refusal b ≡ None → b ≡ true
is_true true e = refl
is_true false e = absurd cc

module _ (constants : List Dynamic) where
  abbrev AreKeyed : Switch → Type 0
  AreKeyed s = list_all (is_keyed constants) (listed (arms s).cases) ≡ true

  switch_keyed : (s : Switch) → switch_refusal (switch_parts constants s) ≡ None → AreKeyed s
  switch_keyed s e = is_true (list_all (is_keyed constants) (listed (arms s).cases)) (or_none _ _ (or_none _ _ e).0).0

  keyed_switch : (s : Switch) → AreKeyed s → switch_refusal (switch_parts constants s) ≡ None
  keyed_switch s keyed =
      rw (keyed, always case_format.refusal (λ c. refl) (switch_parts constants s).0.1, always range_format.refusal (λ r. refl) (switch_parts constants s).1.0) refl

-- ---- all else

no_residuals : (n : ℕ) → residuals_refusal n ≡ None → n ≡ 0
no_residuals zero e = refl
no_residuals (suc n) e = absurd cc

source_kept : (o : Option (List ℕ)) (rest : Option Unkept) → or_refused (optional_refusal (λ (b : List ℕ). None) o) rest ≡ rest
source_kept None rest = refl
source_kept (Some text) rest = refl

counted_all : {A : Type 0} (refusal : A → Option Unkept) (xs : List A) → counted_refusal refusal xs ≡ None → AllByRecursion (λ x. refusal x ≡ None) xs
counted_all refusal [] e = tt
counted_all refusal (x ∷ xs) e = let p = or_none (refusal x) (counted_refusal refusal xs) e in (p.0, counted_all refusal xs p.1)

all_counted : {A : Type 0} (refusal : A → Option Unkept) (xs : List A) → AllByRecursion (λ x. refusal x ≡ None) xs → counted_refusal refusal xs ≡ None
all_counted refusal [] all = refl
all_counted refusal (x ∷ xs) all = none_or (refusal x) (counted_refusal refusal xs) all.0 (all_counted refusal xs all.1)

combined : (code names consts tokens ops chains switches rest : Option Unkept) → code ≡ None → names ≡ None → tokens ≡ None → ops ≡ None → chains ≡ None
    → or_refused code (or_refused (or_refused names (or_refused consts (or_refused tokens (or_refused ops (or_refused chains switches))))) rest) ≡ or_refused (or_refused consts switches) rest
combined code names consts tokens ops chains switches rest c n t o h = rw (c, n, t, o, h) refl

abbrev of_consts : Program → Option Unkept
of_consts p = counted_refusal value_refusal (forms p.consts)

abbrev of_switches : Program → Option Unkept
of_switches p = counted_refusal switch_refusal (map (switch_parts p.consts) p.switches)

-- the reasons, one after another
reasons : (p : Program) → refusal_of (kept p) ≡ or_refused (or_refused (of_consts p) (of_switches p)) (residuals_refusal p.residuals)
unfolding file_format versioned_format body_format pools_format rest_format
reasons p =
    combined (code_format.refusal (kept p).0) (counted_refusal (λ (b : List ℕ). None) p.names) (of_consts p) (counted_refusal token_format.refusal (map token_parts p.tokens))
    (counted_refusal assign_op_format.refusal (map assign_op_parts p.assign_ops)) (counted_refusal chain_format.refusal (map chain_parts p.chains)) (of_switches p)
    (or_refused (optional_refusal (λ (b : List ℕ). None) p.source) (or_refused (positions_format.refusal (places_of p)) (residuals_refusal p.residuals)))
    (code_kept (kept p).0) (texts_kept p.names) (always token_format.refusal token_kept (map token_parts p.tokens)) (always assign_op_format.refusal assign_op_kept (map assign_op_parts p.assign_ops))
    (always chain_format.refusal chain_kept (map chain_parts p.chains))
    ∙ ap (λ (r : Option Unkept). or_refused (or_refused (of_consts p) (of_switches p)) r) (source_kept p.source (or_refused (positions_format.refusal (places_of p)) (residuals_refusal p.residuals)) ∙ ap (λ (r : Option Unkept). or_refused r (residuals_refusal p.residuals)) (places_kept (places_of p)))

is_writable : (p : Program) → refusal_of (kept p) ≡ None → IsWritableProgram p
is_writable p e =
    let a = or_none (or_refused (of_consts p) (of_switches p)) (residuals_refusal p.residuals) (sym (reasons p) ∙ e) in
    let b = or_none (of_consts p) (of_switches p) a.0 in
    record {
      constants = counted_all value_refusal (forms p.consts) b.0;
      cases = each_none switch_refusal (switch_parts p.consts) (AreKeyed p.consts) (switch_keyed p.consts) p.switches b.1;
      residuals = no_residuals p.residuals a.1;
    }

is_kept : (p : Program) → IsWritableProgram p → refusal_of (kept p) ≡ None
is_kept p w =
    let switches : of_switches p ≡ None = none_each switch_refusal (switch_parts p.consts) (AreKeyed p.consts) (keyed_switch p.consts) p.switches w.cases in
    let residuals : residuals_refusal p.residuals ≡ None = ap residuals_refusal w.residuals in
    reasons p ∙ none_or (or_refused (of_consts p) (of_switches p)) (residuals_refusal p.residuals) (none_or (of_consts p) (of_switches p) (all_counted value_refusal (forms p.consts) w.constants) switches) residuals

pub writable : (p : Program) → (refusal_of (kept p) ≡ None) ↔ IsWritableProgram p
writable p = (is_writable p, is_kept p)
