-- Switches of one flat form have the same cases, each in some order, and the same ranges.
use Rattle.std.proofs.Common.{◌≡◌, List, [], ◌∷◌, length, map, sym, ap, ◌∙◌, subst}
use Rattle.std.specs.List.{AllZip, Contains, flat_map}
use Rattle.std.specs.List.Sorted.{IsPermutation}
use Rattle.std.proofs.lemmas.List.Concat.{flat_map-cons}
use Rattle.std.proofs.lemmas.List.Sorted.{Contains-permutation, IsPermutation-sym, length_permutation}
use Rattle.grain_pools.specs.Dispatch.{Arms}
use Rattle.grain_flat.specs.declared.records.CCase.{CCase}
use Rattle.grain_flat.specs.declared.records.CSwitch.{CSwitch}
use Rattle.grain_flat.specs.Flat.{case_rows, arm_range_targets, switch_row}
use Rattle.grain_flat.proofs.ChainRows.{apart}

-- the same cases, each in some order, the same ranges, and the same target of all else
pub record SameArms (t u : Arms) : Type 0 where
  pub cases : (row : CCase) → Contains (case_rows t) row → Contains (case_rows u) row
  pub ranges : arm_range_targets t ≡ arm_range_targets u
  pub otherwise : t.otherwise ≡ u.otherwise

-- the cases and ranges of switches, each switch with a piece of them
abbrev Pieced : List Arms → List (List CCase) → Type 0
Pieced ts ps = AllZip (λ piece t. IsPermutation piece (case_rows t)) ps ts

pub same_arms : (ts us : List Arms) (ps qs : List (List CCase)) → map switch_row ts ≡ map switch_row us → flat_map (λ p. p) ps ≡ flat_map (λ p. p) qs → Pieced ts ps → Pieced us qs
    → flat_map arm_range_targets ts ≡ flat_map arm_range_targets us → AllZip SameArms ts us
same_arms [] [] ps qs rows cases a b ranges = tt
same_arms [] (u ∷ us) ps qs rows cases a b ranges = absurd (cc)
same_arms (t ∷ ts) [] ps qs rows cases a b ranges = absurd (cc)
same_arms (t ∷ ts) (u ∷ us) [] qs rows cases a b ranges = absurd a
same_arms (t ∷ ts) (u ∷ us) (p ∷ ps) [] rows cases a b ranges = absurd b
same_arms (t ∷ ts) (u ∷ us) (p ∷ ps) (q ∷ qs) rows cases a b ranges =
    let row : switch_row t ≡ switch_row u = cc in
    let rest : map switch_row ts ≡ map switch_row us = cc in
    let counted : length (case_rows t) ≡ length (case_rows u) = ap (λ (r : CSwitch). r.cases) row in
    let long : length p ≡ length q = sym (length_permutation p (case_rows t) a.0) ∙ counted ∙ length_permutation q (case_rows u) b.0 in
    let own = apart p (flat_map (λ p. p) ps) q (flat_map (λ p. p) qs) long (sym (flat_map-cons (λ p. p) p ps) ∙ cases ∙ flat_map-cons (λ p. p) q qs) in
    let far : length (arm_range_targets t) ≡ length (arm_range_targets u) = ap (λ (r : CSwitch). r.ranges) row in
    let same = sym (flat_map-cons arm_range_targets t ts) ∙ ranges ∙ flat_map-cons arm_range_targets u us in
    let reach = apart (arm_range_targets t) (flat_map arm_range_targets ts) (arm_range_targets u) (flat_map arm_range_targets us) far same in (
      record {
        cases = λ x has. Contains-permutation q (case_rows u) x b.0 (subst (λ (piece : List CCase). Contains piece x) own.0 (Contains-permutation (case_rows t) p x (IsPermutation-sym p (case_rows t) a.0) has));
        ranges = reach.0;
        otherwise = ap (λ (r : CSwitch). r.otherwise) row;
      },
      same_arms ts us ps qs rest own.1 a.1 b.1 reach.1,
    )
