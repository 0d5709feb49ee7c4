-- Positions in parts and in the whole, and what chains take off the stack whatever their positions.
use Rattle.std.proofs.Common.{◌≡◌, ℕ, ◌+◌, ◌<◌, zero, suc, List, [], ◌∷◌, Bool, true, false, Option, Some, None, Result, Ok, Err, cond, length, get_or, map, ap, refl, subst, sym, ◌∙◌, arith}
use Rattle.std.specs.Prelude.{IfOk, IfSome, option_map}
use Rattle.std.specs.List.{All, flat_map, list_all}
use Rattle.std.proofs.Math.ListN.{get_or-map}
use Rattle.std.proofs.lemmas.List.{length-map}
use Rattle.std.proofs.lemmas.List.Elements.{All-append, All-head, All-map, All-nil, All-tail, All-weaker}
use Rattle.std.proofs.lemmas.Option.{get_or_from_slice_get, slice_get-get_or, slice_get_within}
use Rattle.grain_base.specs.Place.{place_of}
use Rattle.grain_base.specs.declared.position.Position.{Position}
use Rattle.grain_code.specs.Span.{Span}
use Rattle.grain_code.specs.declared.op.Op.{Op}
use Rattle.grain_pools.specs.Chain.{assigns, consumed, positions, root_shape, roots_on_stack, shape}
use Rattle.grain_pools.specs.declared.chain.Chain.{Chain}
use Rattle.grain_pools.specs.declared.chain.Root.{Root}
use Rattle.grain_pools.specs.declared.chain.Root.TheVariants as roots
use Rattle.grain_pools.specs.declared.chain.Step.{Step}
use Rattle.grain_pools.specs.declared.chain.Tail.{Tail}
use Rattle.grain_rules.specs.Setting.{Setting}
use Rattle.grain.proofs.AssembledParts.{All-before_map}
use Rattle.grain.specs.Program.{Program}
use Rattle.grain_builder.specs.Finished.{AreTypedCuts}
use Rattle.grain_builder.specs.Fitting.{HasChains}
use Rattle.rhai_errors.specs.Places.{AreLengths, IsInLines, LiesIn}
use Rattle.rhai_compile.specs.Positions.{ArePositions, IsListedPosition, IsPositionAmong, IsPositionIn, IsPositionOf}
use Rattle.rhai_emit.proofs.OneOf.{one_of}
use Rattle.rhai_emit.proofs.PlaceTests.{and_left, and_right}
use Rattle.rhai_emit.specs.Places.{IsOneOf, Places, pass}
use Rattle.grain_base.specs.declared.pos.Site.{Site}

pub all_flat_map : {X A : Type 0} (P : A → Type 0) (f : X → List A) (xs : List X) → All (λ x. All P (f x)) xs → All P (flat_map f xs)
all_flat_map P f [] h = All-nil P
all_flat_map {X} P f (x ∷ xs) h =
    let Q : X → Type 0 = λ (y : X). All P (f y) in
    All-append P (f x) (flat_map f xs) (All-head Q x xs h) (all_flat_map P f xs (All-tail Q x xs h))

-- what a chain takes off the stack, by what it is, its positions apart
taken : Root × List Step × Tail × ℕ → ℕ
taken s = s.3 + cond (roots_on_stack s.0) 1 0 + cond (assigns s.2) 1 0

root_same : (p : Position) (root : Root) → roots_on_stack (root_shape p root) ≡ roots_on_stack root
root_same p (roots.Local slot name) = refl
root_same p (roots.Named name pos) = refl
root_same p (roots.This pos) = refl
root_same p roots.Temporary = refl

taken_off : (p : Position) (chains : List Chain) → map consumed chains ≡ map taken (map (shape p) chains)
unfolding taken
taken_off p [] = refl
taken_off p (c ∷ chains) = λ i. (c.operands + cond (sym (root_same p c.root) i) 1 0 + cond (assigns c.tail) 1 0) ∷ taken_off p chains i

module _ (p : Position) (chains others : List Chain) (same : map (shape p) others ≡ map (shape p) chains) where
  takes_same : map consumed others ≡ map consumed chains
  takes_same = taken_off p others ∙ ap (map taken) same ∙ sym (taken_off p chains)

  has_alike : (s : Setting) → HasChains s others → HasChains s chains
  has_alike s has h c e =
      let within : h < length chains = slice_get_within chains h c e in
      let long : length others ≡ length chains = sym (length-map others consumed) ∙ ap length takes_same ∙ length-map chains consumed in
      has h (get_or others h c) (slice_get-get_or others h c (omega arith))
      ∙ sym (get_or-map consumed others h c)
      ∙ ap (λ (ns : List ℕ). get_or ns h (consumed c)) takes_same
      ∙ get_or-map consumed chains h c
      ∙ ap consumed (get_or_from_slice_get chains h c c e)

  -- chains that differ in positions alone keep typings
  pub typed_alike : (ops : List Op) (tables : List (List ℕ)) (cuts : List Span) → AreTypedCuts ops chains tables cuts → AreTypedCuts ops others tables cuts
  typed_alike ops tables cuts typed s leads j cut has allowed among at = typed s leads j cut (has_alike s has) allowed among at

-- places of lines of the text lie in it
pub lies_in : (source lengths : List ℕ) → AreLengths source lengths → (position : Position) → IsListedPosition lengths position → IsPositionOf source position
lies_in source lengths are position listed = lies (place_of position) listed where
  lies : (found : Option (ℕ × ℕ)) → IfSome found (λ p. IsInLines lengths (record { line = p.0; column = p.1 })) → IfSome found (λ p. LiesIn source (record { line = p.0; column = p.1 }))
  lies None h = tt
  lies (Some p) h = (are (record { line = p.0; column = p.1 })).0 h

pub all_lie_in : (source lengths : List ℕ) → AreLengths source lengths → (p : Program) → ArePositions (IsListedPosition lengths) p → ArePositions (IsPositionOf source) p
all_lie_in source lengths are p all = record {
  code = code p.positions all.code;
  chains = All-weaker (IsListedPosition lengths) (IsPositionOf source) (lies_in source lengths are) (flat_map positions p.chains) all.chains;
} where
  code : (found : Option (List Position)) → IfSome found (All (IsListedPosition lengths)) → IfSome found (All (IsPositionOf source))
  code None h = tt
  code (Some positions) h = All-weaker (IsListedPosition lengths) (IsPositionOf source) (lies_in source lengths are) positions h

-- a program that has these positions and chains
pub if_placed : {X E : Type 0} (r : Result X E) (at : X → Program) (P : Position → Type 0) (found : Option (List Position)) (chains : List Chain) → IfOk r (λ x. (at x).positions ≡ found) → IfOk r (λ x. (at x).chains ≡ chains) → IfSome found (All P) → All P (flat_map positions chains) → IfOk r (λ x. ArePositions P (at x))
if_placed (Ok x) at P found chains e f code each = record {
  code = subst (λ (ps : Option (List Position)). IfSome ps (All P)) (sym e) code;
  chains = subst (λ (cs : List Chain). All P (flat_map positions cs)) (sym f) each;
}
if_placed (Err error) at P found chains e f code each = tt

-- a program that has these positions of its code
pub if_code : {X E : Type 0} (r : Result X E) (at : X → Program) (P : Position → Type 0) (found : Option (List Position)) → IfOk r (λ x. (at x).positions ≡ found) → IfSome found (All P) → IfOk r (λ x. IfSome (at x).positions (All P))
if_code (Ok x) at P found e code = subst (λ (ps : Option (List Position)). IfSome ps (All P)) (sym e) code
if_code (Err error) at P found e code = tt

listed_some : (P : Position → Type 0) (Q : Option (ℕ × ℕ) → Type 0) (found : Option (List Position)) (xs : List (Option (ℕ × ℕ))) (b : Bool) → option_map (λ ps. map place_of ps) found ≡ cond b None (Some xs) → ((p : Position) → Q (place_of p) → P p) → All Q xs → IfSome found (All P)
listed_some P Q None xs b e from all = tt
listed_some P Q (Some ps) xs true e from all = absurd (cc)
listed_some P Q (Some ps) xs false e from all =
    let same : map place_of ps ≡ xs = cc in
    All-weaker (λ (p : Position). Q (place_of p)) P from ps (All-before_map Q place_of ps (subst (All Q) (sym same) all))

-- positions of which those that are places lie in lines do so when they are listed
pub listed_dense : (lengths : List ℕ) (found : Option (List Position)) (xs : List Position) (b : Bool) → option_map (λ ps. map place_of ps) found ≡ cond b None (Some (map place_of xs)) → All (IsListedPosition lengths) xs → IfSome found (All (IsListedPosition lengths))
listed_dense lengths found xs b e all =
    let Q : Option (ℕ × ℕ) → Type 0 = λ q. IfSome q (λ p. IsInLines lengths (record { line = p.0; column = p.1 })) in
    listed_some (IsListedPosition lengths) Q found (map place_of xs) b e (λ p q. q) (All-map Q place_of xs all)

-- the same of positions that are of these places
pub placed_dense : (places : List Site) (found : Option (List Position)) (xs : List Position) (b : Bool) → option_map (λ ps. map place_of ps) found ≡ cond b None (Some (map place_of xs)) → All (IsPositionIn places) xs → IfSome found (All (IsPositionIn places))
placed_dense places found xs b e all =
    let Q : Option (ℕ × ℕ) → Type 0 = λ q. IfSome q (λ p. (test : Site → Bool) → list_all test places ≡ true → test (record { line = p.0; column = p.1 }) ≡ true) in
    listed_some (IsPositionIn places) Q found (map place_of xs) b e (λ p q. q) (All-map Q place_of xs all)

-- an entry of a list that passes passes
pub entry_passes : (test : Site → Bool) (places : List Site) (i : ℕ) (place : Site) → i < length places → place ≡ get_or places i place → list_all test places ≡ true → test place ≡ true
entry_passes test [] i place l e h = absurd (omega arith)
entry_passes test (p ∷ ps) zero place l e h = ap test e ∙ and_left (test p) (list_all test ps) h
entry_passes test (p ∷ ps) (suc i) place l e h = entry_passes test ps i place (omega arith) e (and_right (test p) (list_all test ps) h)

-- a position of one of these places
pub position_in : (places : List Site) (place : Site) (i : ℕ) (position : Position) → i < length places → place ≡ get_or places i place → IfSome (place_of position) (λ p. place ≡ record { line = p.0; column = p.1 }) → IsPositionIn places position
position_in places place i position l e own = lies (place_of position) own where
  lies : (found : Option (ℕ × ℕ)) → IfSome found (λ p. place ≡ record { line = p.0; column = p.1 }) → IfSome found (λ p. (test : Site → Bool) → list_all test places ≡ true → test (record { line = p.0; column = p.1 }) ≡ true)
  lies None h = tt
  lies (Some p) h = λ test all. ap test (sym h) ∙ entry_passes test places i place l e all

-- where what all of these pass all in the list do, positions of the list's are among these
pub positions_among : (these : Places) (places : List Site) → ((test : Site → Bool) → pass test these ≡ true → list_all test places ≡ true) → (found : Option (List Position)) → IfSome found (All (IsPositionIn places)) → IfSome found (All (IsPositionAmong these))
positions_among these places are None h = tt
positions_among these places are (Some found) h = All-weaker (IsPositionIn places) (IsPositionAmong these) among found h where
  among : (position : Position) → IsPositionIn places position → IsPositionAmong these position
  among position is = lies (place_of position) is where
    lies : (found : Option (ℕ × ℕ)) → IfSome found (λ p. (test : Site → Bool) → list_all test places ≡ true → test (record { line = p.0; column = p.1 }) ≡ true) → IfSome found (λ p. IsOneOf these (record { line = p.0; column = p.1 }))
    lies None h = tt
    lies (Some p) h = one_of these (record { line = p.0; column = p.1 }) (λ test all. h test (are test all))
