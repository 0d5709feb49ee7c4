-- A verdict on the flat form of a program is one on the program.
use Rattle.std.proofs.Common.{◌≡◌, ℕ, List, [], ◌∷◌, length, map, refl, sym, ap, ◌∙◌, subst, Option}
use Rattle.std.specs.Prelude.{None}
use Rattle.std.specs.List.{AllZip}
use Rattle.std.specs.List.Sorted.{IsPermutation}
use Rattle.std.proofs.lemmas.List.{length-map}
use Rattle.std.proofs.lemmas.List.Folds.{flat_map-map}
use Rattle.std.proofs.lemmas.List.Sorted.{IsPermutation-refl}
use Rattle.grain.specs.Program.{Program, chunks_of, input_of}
use Rattle.grain_base.specs.declared.value.Dynamic.{Dynamic}
use Rattle.grain_code.specs.Span.{Span}
use Rattle.grain_flat.specs.Answers.{Accepts, Refuses}
use Rattle.grain_flat.specs.Flat.{AreChains, AreSwitches, Pooled, Rest, Whole, arm_constants, arm_range_targets, asked_row, case_rows, flat_input, switch_row}
use Rattle.grain_flat.specs.declared.records.CCase.{CCase}
use Rattle.grain_flat.specs.declared.records.CConstant.{CConstant}
use Rattle.grain_flat.specs.declared.records.CPools.{CPools}
use Rattle.grain_flat.specs.declared.records.CProgram.{CProgram}
use Rattle.grain_flat_file.specs.Contents.{ArePools, IsFlatFormOf, constant_row, switch_cases}
use Rattle.grain_pools.proofs.TableGrowth.{made_flawless, names_of_made}
use Rattle.grain_pools.specs.Dispatch.{arm_targets, arms}
use Rattle.grain_pools.specs.Names.{first_flaw, names_in}
use Rattle.grain_pools.specs.declared.switch.Switch.{Switch}
use Rattle.grain_rules.specs.Accepted.{AreDeepest, AreSafe, AreTyped, Input, IsAccepted, input_beside}
use Rattle.grain_rules.specs.Capabilities.{name_caps}
use Rattle.grain_rules.specs.Code.{switch_targets}
use Rattle.grain_rules.specs.ConstCaps.{const_caps}
use Rattle.grain_rules.specs.Facts.{case_consts, chain_facts}
use Rattle.grain_rules.specs.Flaw.{FlawAt}
use Rattle.grain_rules.specs.declared.error.VerifyError.{VerifyError}

-- mapped twice
twice : {A B C : Type 0} (f : B → C) (g : A → B) (xs : List A) → map f (map g xs) ≡ map (λ x. f (g x)) xs
twice f g [] = refl
twice f g (x ∷ xs) = ap (λ ys. f (g x) ∷ ys) (twice f g xs)

asked_by : (vs : List Dynamic) → map constant_row vs ≡ map asked_row (map const_caps vs)
unfolding constant_row
asked_by vs = sym (twice asked_row const_caps vs)

each_listed : (ss : List Switch) → AllZip (λ piece t. IsPermutation piece (case_rows t)) (map switch_cases ss) (map arms ss)
each_listed [] = tt
each_listed (s ∷ ss) = (IsPermutation-refl (switch_cases s), each_listed ss)

module _ (p : Program) (c : CPools) (f : ArePools p c) where
  are_switches : AreSwitches c.switches.now c.cases.now c.ranges.now (map arms p.switches)
  are_switches = record {
    rows_are = f.switches_are ∙ sym (twice switch_row arms p.switches);
    pieces = map switch_cases p.switches;
    cases_are = f.cases_are ∙ sym (flat_map-map (λ (piece : List CCase). piece) switch_cases p.switches);
    each = each_listed p.switches;
    ranges_are = f.ranges_are ∙ sym (flat_map-map arm_range_targets arms p.switches);
  }

  are_chains : AreChains c.chains.now c.steps.now p.chains
  are_chains = record { rows_are = f.chains_are; steps_are = f.steps_are }

  flawless : first_flaw c.names.now c.starts.now ≡ None
  flawless = rw (f.names_are, f.starts_are) (made_flawless p.names f.texts)

  abbrev pooled : Pooled c
  pooled = record { asked = map const_caps p.consts; chains = p.chains; switches = map arms p.switches; asked_are = f.constants_are ∙ asked_by p.consts; names_are = flawless; chains_are = are_chains; switches_are = are_switches }

  abbrev rest : Rest c
  rest = record { pooled = pooled; functions = p.functions; functions_are = sym f.functions_are }

  abbrev whole : Whole c
  whole = record { rest = rest; consts = p.consts; asked_are = refl }

  named : names_in c.names.now c.starts.now ≡ p.names
  named = rw (f.names_are, f.starts_are) (names_of_made p.names)

-- with what is equal to what a program has, its input is made
same_input : (p : Program) (code : List ℕ) (chunks : List Span) (consts : ℕ) (names : List (List ℕ)) (tokens ops residuals : ℕ) (cases leads : List (List ℕ))
    → code ≡ p.code → chunks ≡ chunks_of p → consts ≡ length p.consts → names ≡ p.names → tokens ≡ length p.tokens → ops ≡ length p.assign_ops → residuals ≡ p.residuals
    → cases ≡ map case_consts p.switches → leads ≡ map switch_targets p.switches
    → input_beside p.caps.0 p.consts code p.functions chunks (record { consts = consts; names = map name_caps names; tokens = tokens; assign_ops = ops; residuals = residuals; chains = map chain_facts p.chains; cases = cases }) leads ≡ input_of p
same_input p code chunks consts names tokens ops residuals cases leads e1 e2 e3 e4 e5 e6 e7 e8 e9 = rw (e1, e2, e3, e4, e5, e6, e7, e8, e9) refl

module _ (p : Program) (c : CProgram) (f : IsFlatFormOf p c) where
  abbrev all : Whole c.pools
  all = whole p c.pools f.pools

  is_input : flat_input p.caps.0 c.code.now c.chunks.now c.pools all ≡ input_of p
  is_input =
      same_input p c.code.now c.chunks.now (length c.pools.constants.now) (names_in c.pools.names.now c.pools.starts.now) c.pools.operators c.pools.op_assignments c.pools.fragments
      (map arm_constants (map arms p.switches)) (map arm_targets (map arms p.switches))
      f.code_is f.chunks_are (ap (λ (rows : List CConstant). length rows) f.pools.constants_are ∙ length-map p.consts constant_row) (named p c.pools f.pools)
      f.pools.operators_are f.pools.op_assignments_are f.pools.fragments_are (twice arm_constants arms p.switches) (twice arm_targets arms p.switches)

  pub is_accepted : (numbers : List ℕ) → Accepts p.caps.0 c.code.now c.chunks.now c.pools numbers → IsAccepted (input_of p)
  is_accepted numbers h = subst (λ (i : Input). IsAccepted i) is_input (h.accepted all)

  pub are_typed : (numbers : List ℕ) → Accepts p.caps.0 c.code.now c.chunks.now c.pools numbers → AreTyped (input_of p) numbers × AreDeepest (input_of p) numbers × AreSafe (input_of p) numbers
  are_typed numbers h = (
    subst (λ (i : Input). AreTyped i numbers) is_input (h.typed all.rest),
    subst (λ (i : Input). AreDeepest i numbers) is_input (h.deepest all.rest),
    subst (λ (i : Input). AreSafe i numbers) is_input (h.safe all.rest),
  )

  pub is_refused : (place : Option ℕ) (e : VerifyError) → Refuses p.caps.0 c.code.now c.chunks.now c.pools place e → (IsAccepted (input_of p) → ⊥) × FlawAt (input_of p) place e
  is_refused place e h = (
    λ accepted. h.refused all (subst (λ (i : Input). IsAccepted i) (sym is_input) accepted),
    subst (λ (i : Input). FlawAt i place e) is_input (h.flaw all),
  )
