-- Where a name is cut in two.
use Rattle.std.proofs.Common.{◌≡◌, ◌≢◌, ◌≤◌, ◌<◌, ◌↔◌, ℕ, List, [], ◌∷◌, ◌++◌, Bool, true, false, Bor, Option, Some}
use Rattle.std.proofs.Common.{None, MatchOption, cond, drop, length, nat_eq, option_map, take, refl, subst, sym, ap, ◌∙◌, arith, append_assoc, length-append}
use Rattle.std.proofs.lemmas.Bool.Decides.{Decides-eqb}
use Rattle.std.proofs.lemmas.List.{take-append-drop}
use Rattle.std.proofs.lemmas.Slice.Eq.{starts_is}
use Rattle.std.proofs.Math.Seq.{drop-append_seam, take-append_seam}
use Rattle.std.specs.List.{starts_with}
use Rattle.std.specs.Option.{option_or}
use Rattle.std.specs.Str.Pattern.{RFindsText, SplitsAroundMatch}
use Rattle.grain_pools.specs.Qualified.{separator, last_cut, IsLastCut}

-- what `last_cut` answers of a list: its last cut, or that it has none
abbrev Answers : List ℕ → Option (List ℕ × List ℕ) → Type 0
Answers name None = (before after : List ℕ) → name ≢ before ++ separator ++ after
Answers name (Some cut) = IsLastCut name cut.0 cut.1

begins : (name : List ℕ) → starts_with nat_eq name separator ≡ true → name ≡ separator ++ drop 2 name
begins name h = (starts_is Decides-eqb name separator _ refl).0 h

begins_so : (name after : List ℕ) → name ≡ separator ++ after → starts_with nat_eq name separator ≡ true
begins_so name after e = (starts_is Decides-eqb name separator _ refl).1 after e

-- with one byte more in front
further : (x : ℕ) (xs : List ℕ) (rest : Option (List ℕ × List ℕ)) (here : Bool) → starts_with nat_eq (x ∷ xs) separator ≡ here → Answers xs rest
    → Answers (x ∷ xs) (option_or (option_map (λ p. (x ∷ p.0, p.1)) rest) (cond here (Some ([], drop 2 (x ∷ xs))) None))
further x xs (Some cut) here e h = record {
  whole = ap (λ ys. x ∷ ys) h.whole;
  last = λ before after w. at before after w;
}
  where
    at : (before after : List ℕ) → x ∷ xs ≡ before ++ separator ++ after → length before ≤ length (x ∷ cut.0)
    at [] after w = omega arith
    at (y ∷ before) after w = omega (arith, h.last before after (cc))
further x xs None true e h = record {
  whole = begins (x ∷ xs) e;
  last = λ before after w. at before after w;
}
  where
    at : (before after : List ℕ) → x ∷ xs ≡ before ++ separator ++ after → length before ≤ 0
    at [] after w = omega arith
    at (y ∷ before) after w = absurd (h before after (cc))
further x xs None false e h = at
  where
    at : (before after : List ℕ) → x ∷ xs ≢ before ++ separator ++ after
    at [] after w = absurd (cc (begins_so (x ∷ xs) after w))
    at (y ∷ before) after w = h before after (cc)

pub last_cut_answers : (name : List ℕ) → Answers name (last_cut name)
last_cut_answers [] = at
  where
    at : (before after : List ℕ) → [] ≢ before ++ separator ++ after
    at [] after w = absurd (cc)
    at (y ∷ before) after w = absurd (cc)
last_cut_answers (x ∷ xs) = further x xs (last_cut xs) (starts_with nat_eq (x ∷ xs) separator) refl (last_cut_answers xs)

-- two last cuts are one
one_cut : (name a b c d : List ℕ) → IsLastCut name a b → IsLastCut name c d → (a ≡ c) × (b ≡ d)
one_cut name a b c d h k =
    let same : length a ≡ length c = omega (arith, k.last a b h.whole, h.last c d k.whole) in
    let whole : a ++ (separator ++ b) ≡ c ++ (separator ++ d) = sym (rw append_assoc at h.whole) ∙ rw append_assoc at k.whole in
    let fronts : a ≡ c = sym (take-append_seam a (separator ++ b)) ∙ (λ i. take (same i) (whole i)) ∙ take-append_seam c (separator ++ d) in
    let backs : separator ++ b ≡ separator ++ d = sym (drop-append_seam a (separator ++ b)) ∙ (λ i. drop (same i) (whole i)) ∙ drop-append_seam c (separator ++ d) in
    (fronts, ap (drop 2) backs)

one_answer : (name : List ℕ) (r s : Option (List ℕ × List ℕ)) → Answers name r → Answers name s → r ≡ s
one_answer name None None h k = refl
one_answer name None (Some cut) h k = absurd (h cut.0 cut.1 k.whole)
one_answer name (Some cut) None h k = absurd (k cut.0 cut.1 h.whole)
one_answer name (Some cut) (Some other) h k = let e = one_cut name cut.0 cut.1 other.0 other.1 h k in (λ i. Some (e.0 i, e.1 i))

shorter : (name before after : List ℕ) → name ≡ before ++ separator ++ after → length before ≤ length name
shorter name before after e =
    let l : length name ≡ length (before ++ separator ++ after) = ap length e in
    omega (arith, l, length-append (before ++ separator) after, length-append before separator)

rest_at : (name before after : List ℕ) → name ≡ before ++ separator ++ after → drop (length before) name ≡ separator ++ after
rest_at name before after e = ap (drop (length before)) (e ∙ append_assoc before separator after) ∙ drop-append_seam before (separator ++ after)

-- what the kit's search answers, which is said by places
answered : (name : List ℕ) (r : Option (Bor (List ℕ) × Bor (List ℕ))) → MatchOption r (RFindsText separator name None) (λ x. SplitsAroundMatch (RFindsText separator) name x.0.now x.1.now)
    → Answers name (option_map (λ p. (p.0.now, p.1.now)) r)
answered name None h = λ before after e. h (length before) (shorter name before after e) after (rest_at name before after e)
answered name (Some x) h =
    let i = h.0 in
    let found = h.2 in
    let whole : name ≡ x.0.now ++ (separator ++ x.1.now) =
    sym (take-append-drop i name) ∙ ap (λ (l : List ℕ). take i name ++ l) found.1.split ∙ (λ k. sym h.3 k ++ (separator ++ sym h.4 k)) in
    let later : (before after : List ℕ) → name ≡ before ++ separator ++ after → i < length before → ⊥ =
    λ before after e past. found.0 (length before) past (shorter name before after e) after (rest_at name before after e) in
    let front : length x.0.now ≡ i = h.6 in
    record {
      whole = whole ∙ sym (append_assoc x.0.now separator x.1.now);
      last = λ before after e. (let no : i < length before → ⊥ = later before after e in omega (arith, no));
    }

pub last_cut_found : (name : List ℕ) (r : Option (Bor (List ℕ) × Bor (List ℕ))) → MatchOption r (RFindsText separator name None) (λ x. SplitsAroundMatch (RFindsText separator) name x.0.now x.1.now)
    → option_map (λ p. (p.0.now, p.1.now)) r ≡ last_cut name
last_cut_found name r h = one_answer name _ (last_cut name) (answered name r h) (last_cut_answers name)

pub last_cut_is : (name before after : List ℕ) → (last_cut name ≡ Some (before, after)) ↔ IsLastCut name before after
last_cut_is name before after = (
  λ e. subst (Answers name) e (last_cut_answers name),
  λ k. one_answer name (last_cut name) (Some (before, after)) (last_cut_answers name) k,
)

pub last_cut_none : (name : List ℕ) → (last_cut name ≡ None) ↔ ((before after : List ℕ) → name ≢ before ++ separator ++ after)
last_cut_none name = (
  λ e. subst (Answers name) e (last_cut_answers name),
  λ k. one_answer name (last_cut name) None (last_cut_answers name) k,
)
