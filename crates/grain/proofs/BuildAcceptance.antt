-- What is handed over passes by index exactly where the program that it makes is accepted.
use Rattle.std.proofs.Common.{◌≡◌, ℕ, ◌+◌, ◌≤◌, suc, List, [], ◌∷◌, ◌++◌, length, map, Option, Some, None, refl, sym, ap, subst, ◌∙◌, arith}
use Rattle.std.specs.Prelude.{option_map, slice_index}
use Rattle.std.specs.List.{All, AllZip}
use Rattle.std.proofs.lemmas.List.{get_or_default, map-append}
use Rattle.std.proofs.lemmas.List.Elements.{All-map, All-weaker}
use Rattle.std.proofs.lemmas.Simd.{map-map}
use Rattle.grain_base.specs.CapBits.{FUNCTION}
use Rattle.grain_base.specs.declared.caps.Caps.{Caps}
use Rattle.grain_code.specs.Assembly.{assembled}
use Rattle.grain_pools.specs.Dispatch as dispatch
use Rattle.grain_pools.specs.Dispatch.{Arms, Case, arms, offset_at, resolved, resolved_case, resolved_range, arm_targets}
use Rattle.grain_code.specs.Span.{Span}
use Rattle.grain_code.specs.declared.function.Function.{Function}
use Rattle.grain_pools.specs.declared.switch.Switch.{Switch}
use Rattle.grain_pools.specs.declared.switch.SwitchRange.{SwitchRange}
use Rattle.grain_rules.specs.Accepted.{AreDeepest, AreIndexed, ChunkPasses, ConstantPasses, IsAccepted}
use Rattle.grain.specs.Build.{AreDeepestByIndex, CanBuild, CanLay, Draft, IsLaid, by_index, head_of, leads, setting_with}
use Rattle.grain_rules.specs.ByIndex.{IsCut, LeadWithin, span_moved}
use Rattle.grain_rules.specs.Capabilities.{Allows}
use Rattle.grain_rules.specs.Code.{Bytecode, coded, switch_targets}
use Rattle.grain_rules.specs.Indices.{Indexed}
use Rattle.grain.specs.Program.{Program, chunks_of, input_of, setting_of}
use Rattle.grain_rules.specs.Facts.{case_consts}
use Rattle.grain_rules.specs.Setting.{Setting, with_caps}
use Rattle.grain_rules.specs.Typing.{HasTyping, IsDeepest}
use Rattle.grain.specs.declared.builder.Head.{Head}
use Rattle.grain.proofs.AssembledIndices.{indexed_assembled, indexed_ops}
use Rattle.grain.proofs.AssembledParts.{All-before_map}
use Rattle.grain_rules.proofs.Offsets.{offset_count}
use Rattle.grain_rules.proofs.Transport.{deepest_here, deepest_there, framed_there, typed_here, typed_there}

-- the constants of the cases don't change with the targets
abbrev consts_in : Option (List Case) → List ℕ
consts_in cases = map (λ (c : Case). c.1.1) (dispatch.listed cases)

consts_listed : (offsets : List ℕ) (cs : List Case) → map (λ (c : Case). c.1.1) (map (λ (c : Case). (c.0, resolved_case offsets c.1)) cs) ≡ map (λ (c : Case). c.1.1) cs
consts_listed offsets [] = refl
consts_listed offsets (c ∷ cs) = ap (λ (rest : List ℕ). c.1.1 ∷ rest) (consts_listed offsets cs)

consts_resolved : (offsets : List ℕ) (cases : Option (List Case)) → consts_in (option_map (map (λ (c : Case). (c.0, resolved_case offsets c.1))) cases) ≡ consts_in cases
consts_resolved offsets None = refl
consts_resolved offsets (Some cs) = consts_listed offsets cs

all_consts : (offsets : List ℕ) (all : List Arms) → map (λ (a : Arms). consts_in a.cases) (map (resolved offsets) all) ≡ map (λ (a : Arms). consts_in a.cases) all
all_consts offsets [] = refl
all_consts offsets (a ∷ all) = λ i. consts_resolved offsets a.cases i ∷ all_consts offsets all i

same_consts : (offsets : List ℕ) (new old : List Switch) → map arms new ≡ map (resolved offsets) (map arms old) → map case_consts new ≡ map case_consts old
same_consts offsets new old e =
    sym (map-map (λ (a : Arms). consts_in a.cases) arms new)
    ∙ ap (map (λ (a : Arms). consts_in a.cases)) e
    ∙ all_consts offsets (map arms old)
    ∙ map-map (λ (a : Arms). consts_in a.cases) arms old

-- the targets become the offsets at them
module _ (offsets : List ℕ) where
  listed_targets : (cs : List Case) → map (λ (c : Case). c.1.0) (map (λ (c : Case). (c.0, resolved_case offsets c.1)) cs) ≡ map (offset_at offsets) (map (λ (c : Case). c.1.0) cs)
  listed_targets [] = refl
  listed_targets (c ∷ cs) = ap (λ (rest : List ℕ). offset_at offsets c.1.0 ∷ rest) (listed_targets cs)

  case_targets : (cases : Option (List Case))
      → map (λ (c : Case). c.1.0) (dispatch.listed (option_map (map (λ (c : Case). (c.0, resolved_case offsets c.1))) cases)) ≡ map (offset_at offsets) (map (λ (c : Case). c.1.0) (dispatch.listed cases))
  case_targets None = refl
  case_targets (Some cs) = listed_targets cs

  range_targets : (rs : List SwitchRange) → map (λ (r : SwitchRange). r.target) (map (resolved_range offsets) rs) ≡ map (offset_at offsets) (map (λ (r : SwitchRange). r.target) rs)
  range_targets [] = refl
  range_targets (r ∷ rs) = ap (λ (rest : List ℕ). offset_at offsets r.target ∷ rest) (range_targets rs)

  targets_resolved : (a : Arms) → arm_targets (resolved offsets a) ≡ map (offset_at offsets) (arm_targets a)
  targets_resolved a =
      let cs = map (λ (c : Case). c.1.0) (dispatch.listed a.cases) in
      let rs = map (λ (r : SwitchRange). r.target) a.ranges in
      (λ i. case_targets a.cases i ++ range_targets a.ranges i ++ offset_at offsets a.otherwise ∷ [])
      ∙ sym (map-append (offset_at offsets) (cs ++ rs) (a.otherwise ∷ []) ∙ ap (λ (front : List ℕ). front ++ offset_at offsets a.otherwise ∷ []) (map-append (offset_at offsets) cs rs))

  offsets_within : (n : ℕ) (ts : List ℕ) → length offsets ≡ n + 1 → All (λ t. t ≤ n) ts → map (offset_at offsets) ts ≡ map (slice_index offsets) ts
  offsets_within n [] count h = refl
  offsets_within n (t ∷ ts) count h =
      let low : t ≤ n = h 0 0 (omega arith) in
      λ i. get_or_default offsets t t 0 (omega arith) i ∷ offsets_within n ts count (λ k d l. h (suc k) d (omega arith)) i

  all_targets : (n : ℕ) (all : List Arms) → length offsets ≡ n + 1 → All (All (λ t. t ≤ n)) (map arm_targets all) → map arm_targets (map (resolved offsets) all) ≡ map (map (slice_index offsets)) (map arm_targets all)
  all_targets n [] count h = refl
  all_targets n (a ∷ all) count h =
      λ i. (targets_resolved a ∙ offsets_within n (arm_targets a) count (h 0 [] (omega arith))) i ∷ all_targets n all count (λ k d l. h (suc k) d (omega arith)) i

same_targets : (offsets : List ℕ) (n : ℕ) (new old : List Switch) → length offsets ≡ n + 1 → LeadWithin n (map switch_targets old)
    → map arms new ≡ map (resolved offsets) (map arms old) → map switch_targets new ≡ map (map (slice_index offsets)) (map switch_targets old)
same_targets offsets n new old count fit e =
    let cut = map-map arm_targets arms old in
    sym (map-map arm_targets arms new)
    ∙ ap (map arm_targets) e
    ∙ all_targets offsets n (map arms old) count (subst (LeadWithin n) (sym cut) fit)
    ∙ ap (map (map (slice_index offsets))) cut

no_functions : (fs : List Function) → map head_of fs ≡ [] → fs ≡ []
no_functions [] e = refl
no_functions (f ∷ fs) e = absurd (let l : suc (length (map head_of fs)) ≡ 0 = ap (λ (hs : List Head). length hs) e in omega arith)

module _ (d : Draft) (p : Program) (lays : CanLay d) (laid : IsLaid d p) where
  abbrev s : Setting
  s = setting_with d.caps d.parts

  abbrev f : ℕ → ℕ
  f = slice_index laid.offsets

  -- the code as the transport has it
  abbrev there : Bytecode
  there = record { setting = s; bytes = p.code; switches = map (map f) (leads d) }

  count : length laid.offsets ≡ length d.ops + 1
  count = offset_count d.ops p.code laid.offsets laid.code

  same_setting : setting_of p ≡ s
  same_setting =
      (λ i. with_caps p.caps.0 (record (setting_of p).facts { cases = same_consts laid.offsets p.switches d.parts.switches.items laid.switches i }))
      ∙ ap setting_of laid.rest

  same_code : (input_of p).code ≡ there
  same_code = λ i. record {
    setting = same_setting i;
    bytes = p.code;
    switches = same_targets laid.offsets (length d.ops) p.switches d.parts.switches.items count lays.switches laid.switches i;
  }

  same_caps : p.caps ≡ d.caps
  same_caps = ap (λ (q : Program). q.caps) laid.rest

  same_constants : p.consts ≡ d.parts.consts.items
  same_constants = ap (λ (q : Program). q.consts) laid.rest

  constants_same : All (ConstantPasses p.caps.0) p.consts ≡ All (ConstantPasses d.caps.0) d.parts.consts.items
  constants_same = λ i. All (ConstantPasses (same_caps i).0) (same_constants i)

  chunk_there : (cut : Span) → IsCut (length d.ops) cut → HasTyping (by_index d) cut cut.max_stack → ChunkPasses there (span_moved f cut)
  chunk_there cut part typing = record {
    framed = framed_there s d.ops (leads d) p.code laid.offsets laid.code lays.ops lays.switches there cut cut.max_stack refl part typing;
    typed = typed_there s d.ops (leads d) p.code laid.offsets laid.code lays.ops lays.switches cut cut.max_stack part.inside typing;
  }

  chunk_here : (cut : Span) → IsCut (length d.ops) cut → ChunkPasses there (span_moved f cut) → HasTyping (by_index d) cut cut.max_stack
  chunk_here cut part h = typed_here s d.ops (leads d) p.code laid.offsets laid.code lays.ops lays.switches cut cut.max_stack part h.typed

  -- what passes by index is accepted as bytes
  pub accepted_there : CanBuild d → IsAccepted (input_of p)
  accepted_there h = record {
    constants = λ k v l. subst (λ (A : Type 0). A) (sym constants_same) h.constants k v l;
    code = (
      map (assembled laid.offsets) d.ops,
      laid.code.written,
      subst (λ (t : Setting). All (Indexed t) (map (assembled laid.offsets) d.ops)) (sym same_setting)
          (All-map (Indexed s) (assembled laid.offsets) d.ops (All-weaker (Indexed s) (λ op. Indexed s (assembled laid.offsets op)) (indexed_assembled s laid.offsets) d.ops h.indexed)),
    );
    functions = λ some. subst (λ (c : Caps). Allows c.0 FUNCTION) (sym same_caps) (h.functions (λ none. some (no_functions p.functions (laid.heads ∙ none))));
    chunks =
        subst (λ (c : Bytecode). All (ChunkPasses c) (chunks_of p)) (sym same_code)
        (subst (All (ChunkPasses there)) (sym laid.chunks)
        (All-map (ChunkPasses there) (span_moved f) d.cuts (λ k cut l. chunk_there _ (lays.cuts k cut l) (h.typed k cut l))));
  }

  -- indices that pass in its code pass in the operations
  pub indexed_here : AreIndexed (setting_of p) p.code → All (Indexed s) d.ops
  indexed_here h = indexed_ops s d.ops p.code laid.offsets laid.code (subst (λ (t : Setting). AreIndexed t p.code) same_setting h)

  -- and the other way
  pub accepted_here : IsAccepted (input_of p) → CanBuild d
  accepted_here h = record {
    lays = lays;
    constants = λ k v l. subst (λ (A : Type 0). A) constants_same h.constants k v l;
    indexed = indexed_here h.code;
    functions = λ some. subst (λ (c : Caps). Allows c.0 FUNCTION) same_caps (h.functions (λ none. some (sym laid.heads ∙ ap (map head_of) none)));
    typed = λ k cut l.
        let chunks : All (ChunkPasses there) (map (span_moved f) d.cuts) = subst (All (ChunkPasses there)) laid.chunks (subst (λ (c : Bytecode). All (ChunkPasses c) (chunks_of p)) same_code h.chunks) in
        chunk_here _ (lays.cuts k cut l) (All-before_map (ChunkPasses there) (span_moved f) d.cuts chunks k cut l);
  }

  each_deepest : (cuts : List Span) (numbers : List ℕ) → All (IsCut (length d.ops)) cuts → AllZip (IsDeepest (coded there)) (map (span_moved f) cuts) numbers → AllZip (IsDeepest (by_index d)) cuts numbers
  each_deepest [] [] parts h = h
  each_deepest [] (n ∷ ns) parts h = absurd h
  each_deepest (c ∷ cs) [] parts h = absurd h
  each_deepest (c ∷ cs) (n ∷ ns) parts h = (
    deepest_here s d.ops (leads d) p.code laid.offsets laid.code lays.ops lays.switches c n (parts 0 c (omega arith)) h.0,
    each_deepest cs ns (λ k cut l. parts (suc k) cut (omega arith)) h.1,
  )

  each_there : (cuts : List Span) (numbers : List ℕ) → All (IsCut (length d.ops)) cuts → AllZip (IsDeepest (by_index d)) cuts numbers → AllZip (IsDeepest (coded there)) (map (span_moved f) cuts) numbers
  each_there [] [] parts h = h
  each_there [] (n ∷ ns) parts h = absurd h
  each_there (c ∷ cs) [] parts h = absurd h
  each_there (c ∷ cs) (n ∷ ns) parts h = (
    deepest_there s d.ops (leads d) p.code laid.offsets laid.code lays.ops lays.switches c n (parts 0 c (omega arith)) h.0,
    each_there cs ns (λ k cut l. parts (suc k) cut (omega arith)) h.1,
  )

  -- with the same numbers
  pub numbers_here : (numbers : List ℕ) → AreDeepest (input_of p) numbers → AreDeepestByIndex d numbers
  numbers_here numbers h =
      each_deepest d.cuts numbers lays.cuts
      (subst (λ (chunks : List Span). AllZip (IsDeepest (coded there)) chunks numbers) laid.chunks
      (subst (λ (c : Bytecode). AllZip (IsDeepest (coded c)) (chunks_of p) numbers) same_code h))

  pub numbers_there : (numbers : List ℕ) → AreDeepestByIndex d numbers → AreDeepest (input_of p) numbers
  numbers_there numbers h =
      subst (λ (c : Bytecode). AllZip (IsDeepest (coded c)) (chunks_of p) numbers) (sym same_code)
      (subst (λ (chunks : List Span). AllZip (IsDeepest (coded there)) chunks numbers) (sym laid.chunks) (each_there d.cuts numbers lays.cuts h))
