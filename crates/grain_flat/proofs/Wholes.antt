-- What is said of the pools that were made holds of all that has their flat form.
use Rattle.std.proofs.Common.{◌≡◌, ℕ, ◌<◌, inl, List, [], ◌∷◌, Option, Some, None, get_or, length, map, refl, subst, sym, ap, ◌∙◌, arith}
use Rattle.std.specs.List.{All, AllZip}
use Rattle.std.proofs.lemmas.List.{get_or-map, length-map}
use Rattle.grain_rules.specs.Accepted.{AllowsConst, AreIndexed, AreDeepest, AreSafe, AreTyped, ChunkPasses, CodePasses, ConstantPasses, FunctionsPass, Input, IsAccepted, IsSafe}
use Rattle.grain_rules.specs.Code.{coded}
use Rattle.grain_rules.specs.ConstCaps.{const_caps}
use Rattle.grain_pools.specs.Dispatch.{Arms, arm_targets}
use Rattle.grain_rules.specs.Flaw.{CodeFlaw, ConstantAsks, Flaw, FlawAt, IsFirstFlaw, IsFlawOfChunks, PassesTo, bad_index, of_chunk, of_code, of_constant, of_functions, undecodable}
use Rattle.grain_rules.specs.Setting.{Setting}
use Rattle.grain_code.specs.Span.{Span}
use Rattle.grain_verify.specs.Meter.{AreReached}
use Rattle.grain_rules.specs.Typing.{HasTyping, IsDeepest, IsReachedCount}
use Rattle.grain_rules.specs.declared.error.VerifyError.{VerifyError}
use Rattle.grain_rules.specs.declared.error.VerifyError.TheVariants as errors
use Rattle.grain_base.specs.declared.caps.Caps.{Caps}
use Rattle.grain_base.specs.declared.value.Dynamic.{Dynamic}
use Rattle.grain_base.specs.declared.value.Dynamic.TheVariants as values
use Rattle.grain_pools.specs.declared.chain.Chain.{Chain}
use Rattle.grain_code.specs.declared.function.Function.{Function}
use Rattle.grain_flat.specs.Answers.{Refuses}
use Rattle.grain_flat.specs.Flat.{Rest, Whole, asked_row, rest_input}
use Rattle.grain_flat.specs.Asking.{IsFirstRefusedRow, RowPasses}
use Rattle.grain_flat.specs.Judging.{AreSome, judged}
use Rattle.grain_flat.specs.declared.records.CConstant.{CConstant}
use Rattle.grain_flat.specs.declared.records.CPools.{CPools}
use Rattle.grain_rules.proofs.Alike.{Alike, chunk_passes, deepest, reached_count, safe, typed}
use Rattle.grain_flat.proofs.AlikeFlaws.{chunk_flaw}
use Rattle.grain_flat.proofs.FlatAlike.{AreOf, alike, setting_of}
use Rattle.grain_flat.proofs.FlatIndices.{flat_tested}
use Rattle.grain_rules.proofs.TestedAlike.{TestedAlike, indexed, out}

-- lists of pairs
zip_map : {A B : Type 0} (R S : A → B → Type 0) → ((a : A) (b : B) → R a b → S a b) → (xs : List A) (ys : List B) → AllZip R xs ys → AllZip S xs ys
zip_map R S f [] [] h = h
zip_map R S f [] (y ∷ ys) h = h
zip_map R S f (x ∷ xs) [] h = h
zip_map R S f (x ∷ xs) (y ∷ ys) h = (f x y h.0, zip_map R S f xs ys h.1)

no_functions : (functions : List Function) → length functions ≡ 0 → functions ≡ []
no_functions [] none = refl
no_functions (f ∷ fs) none = absurd (omega arith)

module _ (caps : ℕ) (bytes : List ℕ) (p : CPools) (cs ds : List Chain) (ts us : List Arms) (one : AreOf p cs ts) (other : AreOf p ds us) where
  abbrev s : Setting
  s = setting_of caps p cs ts

  abbrev t : Setting
  t = setting_of caps p ds us

  like : Alike s t (map arm_targets ts) (map arm_targets us)
  like = alike caps p cs ds ts us one other

  tested : TestedAlike s t
  tested = flat_tested caps p cs ds ts us one other

  abbrev mine : List Span → Input
  mine chunks = judged caps bytes chunks p [] cs ts

  abbrev theirs : List Span → Input
  theirs chunks = judged caps bytes chunks p [] ds us

  all_indexed : (bs : List ℕ) → AreIndexed s bs → AreIndexed t bs
  all_indexed bs h = (h.0, h.1, λ k d inside. indexed s t tested _ (h.2 k d inside))

  all_pass : (chunks : List Span) → All (ChunkPasses (mine chunks).code) chunks → All (ChunkPasses (theirs chunks).code) chunks
  all_pass chunks h k d inside = chunk_passes bytes like (get_or chunks k d) (h k d inside)

  passes_to : (at : ℕ) → PassesTo s bytes at → PassesTo t bytes at
  passes_to at h = record { inside = h.inside; front = all_indexed _ h.front }

  code_flaw : (e : VerifyError) → CodeFlaw s bytes e → CodeFlaw t bytes e
  code_flaw e (undecodable {at} p none) = undecodable (passes_to at p) none
  code_flaw e (bad_index {at} {what} {index} op p stands is) = bad_index op (passes_to at p) stands (out s t tested op what.now index is)

  all_typed : (chunks : List Span) (numbers : List ℕ) → AreTyped (mine chunks) numbers → AreTyped (theirs chunks) numbers
  all_typed chunks numbers = zip_map (HasTyping (coded (mine chunks).code)) (HasTyping (coded (theirs chunks).code)) (typed bytes like) chunks numbers

  all_deepest : (chunks : List Span) (numbers : List ℕ) → AreDeepest (mine chunks) numbers → AreDeepest (theirs chunks) numbers
  all_deepest chunks numbers = zip_map (IsDeepest (coded (mine chunks).code)) (IsDeepest (coded (theirs chunks).code)) (deepest bytes like) chunks numbers

  all_reached : (chunks : List Span) (n : ℕ) → AreReached (mine chunks).code chunks n → AreReached (theirs chunks).code chunks n
  all_reached chunks n h =
      (h.0, zip_map (IsReachedCount (coded (mine chunks).code)) (IsReachedCount (coded (theirs chunks).code)) (reached_count bytes like) chunks h.0 h.1, h.2)

  all_safe : (chunks : List Span) (numbers : List ℕ) → AreSafe (mine chunks) numbers → AreSafe (theirs chunks) numbers
  all_safe chunks numbers = zip_map (IsSafe (mine chunks).code) (IsSafe (theirs chunks).code) (safe bytes like) chunks numbers

  abbrev first_flaw_there : (chunks : List Span) (e : VerifyError) → IsFirstFlaw (mine chunks).code chunks e → IsFirstFlaw (theirs chunks).code chunks e
  first_flaw_there chunks e h = record {
    place = h.place;
    inside = h.inside;
    earlier = λ k d low high. chunk_passes bytes like (get_or chunks k d) (h.earlier k d low high);
    here = λ d. chunk_flaw bytes like (get_or chunks h.place d) e (h.here d);
  }

-- the constants that ask what rows say pass where the rows do
row_of : (rows : List CConstant) (consts : List Dynamic) → rows ≡ map asked_row (map const_caps consts) → (k : ℕ) (d : Dynamic) (r : CConstant) → k < length consts
    → asked_row (const_caps (get_or consts k d)) ≡ get_or rows k r
row_of rows consts is k d r inside =
    let inner : get_or (map const_caps consts) k (const_caps d) ≡ const_caps (get_or consts k d) = get_or-map const_caps consts k d (const_caps d) inside in
    let long : k < length (map const_caps consts) = omega (arith, length-map consts const_caps) in
    ap asked_row (sym inner) ∙ sym (get_or-map asked_row (map const_caps consts) k (const_caps d) r long) ∙ ap (λ rs. get_or rs k r) (sym is)

pub constants_pass : (caps : ℕ) (rows : List CConstant) (consts : List Dynamic) → rows ≡ map asked_row (map const_caps consts) → All (RowPasses caps) rows → All (ConstantPasses caps) consts
constants_pass caps rows consts is pass k d inside =
    let long : k < length rows = omega (arith, ap length is, length-map (map const_caps consts) asked_row, length-map consts const_caps) in
    let row : CConstant = record { is_known = 0; caps = 0 } in
    (pass k row long).passes (const_caps (get_or consts k d)) (row_of rows consts is k d row inside)

module _ (caps : ℕ) (bytes : List ℕ) (chunks : List Span) (p : CPools) (cs : List Chain) (ts : List Arms) (functions : List Function) (made : AreOf p cs ts) (some : AreSome p.functions functions)
    (rest : Rest p) (consts : List Dynamic) (constants : All (ConstantPasses caps) consts) where
  abbrev verified : Input
  verified = judged caps bytes chunks p functions cs ts

  abbrev given : Input
  given = record (rest_input caps bytes chunks p rest) { consts = consts }

  given_are : AreOf p rest.pooled.chains rest.pooled.switches
  given_are = record { chains_are = rest.pooled.chains_are; switches_are = rest.pooled.switches_are }

  functions_there : FunctionsPass verified → FunctionsPass given
  functions_there h are = h (λ none. are (no_functions rest.functions (rest.functions_are ∙ some.none none)))

  functions_back : FunctionsPass given → FunctionsPass verified
  functions_back h are = h (λ none. are (some.any (sym rest.functions_are ∙ ap length none)))

  code_there : CodePasses verified → CodePasses given
  code_there = all_indexed caps bytes p cs rest.pooled.chains ts rest.pooled.switches made given_are bytes

  code_back : CodePasses given → CodePasses verified
  code_back = all_indexed caps bytes p rest.pooled.chains cs rest.pooled.switches ts given_are made bytes

  pub accepted : IsAccepted verified → IsAccepted given
  accepted h = record {
    constants = constants;
    code = code_there h.code;
    functions = functions_there h.functions;
    chunks = all_pass caps bytes p cs rest.pooled.chains ts rest.pooled.switches made given_are chunks h.chunks;
  }

  pub accepted_back : IsAccepted given → IsAccepted verified
  accepted_back h = record {
    constants = λ k d none. absurd (omega arith);
    code = code_back h.code;
    functions = functions_back h.functions;
    chunks = all_pass caps bytes p rest.pooled.chains cs rest.pooled.switches ts given_are made chunks h.chunks;
  }

  pub typed_there : (numbers : List ℕ) → AreTyped verified numbers → AreTyped given numbers
  typed_there = all_typed caps bytes p cs rest.pooled.chains ts rest.pooled.switches made given_are chunks

  pub deepest_there : (numbers : List ℕ) → AreDeepest verified numbers → AreDeepest given numbers
  deepest_there = all_deepest caps bytes p cs rest.pooled.chains ts rest.pooled.switches made given_are chunks

  pub reached_there : (n : ℕ) → AreReached verified.code chunks n → AreReached given.code chunks n
  reached_there = all_reached caps bytes p cs rest.pooled.chains ts rest.pooled.switches made given_are chunks

  pub safe_there : (numbers : List ℕ) → AreSafe verified numbers → AreSafe given numbers
  safe_there = all_safe caps bytes p cs rest.pooled.chains ts rest.pooled.switches made given_are chunks

  abbrev chunks_there : (e : VerifyError) → IsFlawOfChunks verified e → IsFlawOfChunks given e
  chunks_there e h = record {
    constants = constants;
    code = code_there h.code;
    functions = functions_there h.functions;
    chunk = first_flaw_there caps bytes p cs rest.pooled.chains ts rest.pooled.switches made given_are chunks e h.chunk;
  }

  chunks_back : (e : VerifyError) → IsFlawOfChunks given e → IsFlawOfChunks verified e
  chunks_back e h = record {
    constants = λ k d none. absurd (omega arith);
    code = code_back h.code;
    functions = functions_back h.functions;
    chunk = first_flaw_there caps bytes p rest.pooled.chains cs rest.pooled.switches ts given_are made chunks e h.chunk;
  }

  code_flaw_there : (e : VerifyError) → CodeFlaw verified.code.setting bytes e → CodeFlaw given.code.setting bytes e
  code_flaw_there = code_flaw caps bytes p cs rest.pooled.chains ts rest.pooled.switches made given_are

  before_there : (e : VerifyError) → Flaw verified e → (IsFlawOfChunks verified e → ⊥) → Flaw given e
  before_there e (of_constant is h) none = absurd (omega (arith, h.inside))
  before_there e (of_code pass f) none = of_code constants (code_flaw_there e f)
  before_there e (of_functions is h) none =
      of_functions is (record {
        constants = constants;
        code = code_there h.code;
        functions = λ are. h.functions (some.any (sym rest.functions_are ∙ ap length are));
        what = h.what;
        refused = h.refused;
      })
  before_there e (of_chunk h) none = absurd (none h)

  pub flaw_there : (place : Option ℕ) (e : VerifyError) → FlawAt verified place e → FlawAt given place e
  flaw_there None e h = (before_there e h.0 h.1, λ flaw. h.1 (chunks_back e flaw))
  flaw_there (Some place) e h = (chunks_there e h.0, h.1)

differ : (m n : ℕ) → m ≡ n → m < n → ⊥
differ m n e h = omega arith

-- a row tells what is asked
asked_is : (o : Option ℕ) (asked : ℕ) → asked_row o ≡ asked_row (Some asked) → o ≡ Some asked
asked_is None asked e = absurd (differ 0 1 (ap (λ (r : CConstant). r.is_known) e) (omega arith))
asked_is (Some n) asked e = ap Some (ap (λ (r : CConstant). r.caps) e)

constant_asks : (caps asked : ℕ) (rows : List CConstant) (consts : List Dynamic) → rows ≡ map asked_row (map const_caps consts) → IsFirstRefusedRow caps rows asked → ConstantAsks caps consts asked
constant_asks caps asked rows consts is h =
    let long : length rows ≡ length consts = ap length is ∙ length-map (map const_caps consts) asked_row ∙ length-map consts const_caps in
    let blank : CConstant = record { is_known = 0; caps = 0 } in
    let inside : h.place < length consts = omega (arith, long, h.inside) in
    record {
      place = h.place;
      inside = inside;
      earlier = λ k d low high. let at : k < length consts = omega arith in (h.earlier k blank low high).passes (const_caps (get_or consts k d)) (row_of rows consts is k d blank at);
      here = λ d. asked_is (const_caps (get_or consts h.place d)) asked (row_of rows consts is h.place d blank inside ∙ h.here blank);
      refused = h.refused;
    }

-- the constants of all with the flat form pass where the rows do
pub whole_constants : (caps : ℕ) (p : CPools) (whole : Whole p) → All (RowPasses caps) p.constants.now → All (ConstantPasses caps) whole.consts
whole_constants caps p whole rows = constants_pass caps p.constants.now whole.consts (whole.rest.pooled.asked_are ∙ ap (map asked_row) (sym whole.asked_are)) rows

pub no_constants : (caps : ℕ) → All (ConstantPasses caps) []
no_constants caps k d none = absurd (omega arith)

-- what a constant asks that isn't all there refuses all with the flat form
pub constant_flaw : (artifact absent : Caps) (bytes : List ℕ) (chunks : List Span) (p : CPools) → IsFirstRefusedRow artifact.0 p.constants.now absent.0
    → Refuses artifact.0 bytes chunks p None (errors.MissingCaps artifact absent 0)
constant_flaw artifact absent bytes chunks p h =
    let asks : (whole : Whole p) → ConstantAsks artifact.0 whole.consts absent.0 = λ whole. constant_asks artifact.0 absent.0 p.constants.now whole.consts
    (whole.rest.pooled.asked_are ∙ ap (map asked_row) (sym whole.asked_are)) h in
    let fails : (whole : Whole p) → All (ConstantPasses artifact.0) whole.consts → ⊥ = λ whole pass. let a = asks whole in
    a.refused (subst (AllowsConst artifact.0) (a.here values.Unit) (pass a.place values.Unit a.inside)) in
    record {
      refused = λ whole accepted. fails whole accepted.constants;
      flaw = λ whole. (of_constant refl (asks whole), λ flaw. fails whole flaw.constants);
      cause = inl (record { artifact = artifact; asked = absent; artifact_is = refl; first = h; place_is = refl; error_is = refl });
    }
