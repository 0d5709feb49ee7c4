-- What becomes of cuts, heads and switches once operations have addresses.
use Rattle.std.proofs.Common.{◌≡◌, ℕ, ◌+◌, ◌-◌, ◌<◌, ◌≤◌, zero, suc, List, [], ◌∷◌, length, map, get_or, take, drop, Bor, sym, ap, subst, ◌∙◌, arith}
use Rattle.std.specs.List.{All, zip}
use Rattle.std.proofs.Math.ListN.{get_or-map}
use Rattle.std.proofs.lemmas.List.{length-map}
use Rattle.std.proofs.lemmas.List.Elements.{All-contains, All-drop, All-map, All-take}
use Rattle.std.proofs.lemmas.Simd.{map-map}
use Rattle.std.proofs.lemmas.Slice.Zip.{firsts-zip, get_or-zip, seconds-zip}
use Rattle.grain_pools.specs.Dispatch.{AreWithin, IsFirstPast, arms}
use Rattle.grain_code.specs.Span.{Span}
use Rattle.grain_pools.specs.declared.switch.Switch.{Switch}
use Rattle.grain.specs.Build.{span_of}
use Rattle.grain_rules.specs.ByIndex.{IsCut, LeadWithin}
use Rattle.grain_rules.specs.Code.{switch_targets}
use Rattle.grain.specs.declared.builder.Cut.{Cut}
use Rattle.grain.specs.declared.builder.Head.{Head}

-- heads and cuts that have been gone through side by side
module _ (heads : List Head) (cuts : List Cut) (count : length cuts ≡ length heads) where
  pairs : length (zip heads cuts) ≡ length cuts
  pairs = sym (length-map (zip heads cuts) (λ p. p.1)) ∙ ap (λ (cs : List Cut). length cs) (seconds-zip heads cuts count)

  -- the next cut is one of them
  pub cut_there : (m n : ℕ) (p : Head × Cut) → All (IsCut m) (map span_of cuts) → (n < length (zip heads cuts)) × (p ≡ get_or (zip heads cuts) n p) → IsCut m (span_of p.1)
  cut_there m n p all t =
      let l = t.0 in
      let e = pairs in
      let first : n < length heads = omega arith in
      let second : n < length cuts = omega arith in
      let same : p.1 ≡ get_or cuts n p.1 = ap (λ (q : Head × Cut). q.1) (t.1 ∙ get_or-zip heads cuts n p first second) in
      let long : n < length (map span_of cuts) = omega (arith, length-map cuts span_of) in
      subst (λ (c : Cut). IsCut m (span_of c)) (sym same) (subst (IsCut m) (get_or-map span_of cuts n p.1) (all n (span_of p.1) long))

  pub heads_listed : (yielded : List (Head × Bor Cut)) → map (λ p. (p.0, p.1.now)) yielded ≡ zip heads cuts → map (λ p. p.0) yielded ≡ heads
  heads_listed yielded e =
      sym (map-map (λ (q : Head × Cut). q.0) (λ (p : Head × Bor Cut). (p.0, p.1.now)) yielded) ∙ ap (map (λ (q : Head × Cut). q.0)) e ∙ firsts-zip heads cuts count

  pub cuts_listed : (g : Cut → Span) (yielded : List (Head × Bor Cut)) → map (λ p. (p.0, p.1.now)) yielded ≡ zip heads cuts → map (λ p. g p.1.now) yielded ≡ map g cuts
  cuts_listed g yielded e =
      sym (map-map (λ (q : Head × Cut). g q.1) (λ (p : Head × Bor Cut). (p.0, p.1.now)) yielded)
      ∙ ap (map (λ (q : Head × Cut). g q.1)) e
      ∙ sym (map-map g (λ (q : Head × Cut). q.1) (zip heads cuts))
      ∙ ap (map g) (seconds-zip heads cuts count)

-- what holds of each thing that is made of some holds of what they are made of
pub All-before_map : {X Y : Type 0} (P : Y → Type 0) (f : X → Y) (xs : List X) → All P (map f xs) → All (λ x. P (f x)) xs
All-before_map P f [] h k d l = absurd (omega arith)
All-before_map P f (x ∷ xs) h zero d l = h 0 (f x) (omega arith)
All-before_map P f (x ∷ xs) h (suc k) d l = All-before_map P f xs (λ j y m. h (suc j) y (omega arith)) k d (omega arith)

-- the cuts behind the first
pub others_lie : (P : Span → Type 0) (cuts : List Cut) → All P (map span_of cuts) → All P (map span_of (take (length cuts - 1) (drop 1 cuts)))
others_lie P cuts all =
    let each : Cut → Type 0 = λ cut. P (span_of cut) in
    All-map P span_of (take (length cuts - 1) (drop 1 cuts)) (All-take each (length cuts - 1) (drop 1 cuts) (All-drop each 1 cuts (All-before_map P span_of cuts all)))

-- switches that lead to operations or their end have targets among the offsets, and the other way round
fits_lead : (n : ℕ) (ss : List Switch) → All (λ s. AreWithin (n + 1) (arms s)) ss → LeadWithin n (map switch_targets ss)
fits_lead n [] h k d l = absurd (omega arith)
fits_lead n (s ∷ ss) h zero d l = λ i e m. let below = h 0 s (omega arith) i e m in omega arith
fits_lead n (s ∷ ss) h (suc k) d l = fits_lead n ss (λ j t m. h (suc j) t (omega arith)) k d (omega arith)

pub lead_within : (n count : ℕ) (ss : List Switch) → count ≡ n + 1 → All (λ s. AreWithin count (arms s)) ss → LeadWithin n (map switch_targets ss)
lead_within n count ss e h = fits_lead n ss (subst (λ (k : ℕ). All (λ s. AreWithin k (arms s)) ss) e h)

pub none_past : (n count : ℕ) (ss : List Switch) (i target : ℕ) → count ≡ n + 1 → LeadWithin n (map switch_targets ss) → IsFirstPast count ss i target → ⊥
none_past n count [] i target e lead h = let l = h.inside in absurd (omega arith)
none_past n count (s ∷ ss) i target e lead h =
    let inside = h.inside in
    let long : i < length (map switch_targets (s ∷ ss)) = omega (arith, length-map (s ∷ ss) switch_targets) in
    let all : All (λ t. t ≤ n) (switch_targets (get_or (s ∷ ss) i s)) = subst (All (λ t. t ≤ n)) (get_or-map switch_targets (s ∷ ss) i s) (lead i (switch_targets s) long) in
    let low : target ≤ n = All-contains (λ t. t ≤ n) (switch_targets (get_or (s ∷ ss) i s)) target all (h.here s) in
    let high = h.past in
    omega arith
