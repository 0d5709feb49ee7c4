-- A place that passes each test that some places pass is one of them.
use Rattle.std.proofs.Common.{◌≡◌, ◌⊎◌, inl, inr, Bool, true, false, eqb, eq-eqb, eqb-true, refl}
use Rattle.std.specs.Prelude.{◌&&◌, ◌||◌}
use Rattle.rhai_emit.specs.Places.{IsOneOf, Places, both, here, nowhere, pass}
use Rattle.rhai_emit.proofs.PlaceTests.{and_both, and_left, and_right}
use Rattle.grain_base.specs.declared.pos.Site.{Site}

same_place : Site → Site → Bool
same_place one other = eqb one.line other.line && eqb one.column other.column

is_one_of : Places → Site → Bool
is_one_of nowhere place = false
is_one_of (here one) place = same_place one place
is_one_of (both some others) place = is_one_of some place || is_one_of others place

same_self : (place : Site) → same_place place place ≡ true
unfolding same_place
same_self place = and_both (eqb place.line place.line) (eqb place.column place.column) (eq-eqb place.line place.line refl) (eq-eqb place.column place.column refl)

same_is : (one other : Site) → same_place one other ≡ true → one ≡ other
unfolding same_place
same_is one other e =
    let line : one.line ≡ other.line = eqb-true one.line other.line (and_left (eqb one.line other.line) (eqb one.column other.column) e) in
    let column : one.column ≡ other.column = eqb-true one.column other.column (and_right (eqb one.line other.line) (eqb one.column other.column) e) in
    λ i. record { line = line i; column = column i }

or_left : (a b : Bool) → a ≡ true → a || b ≡ true
or_left true b h = refl
or_left false b h = absurd (cc)

or_right : (a b : Bool) → b ≡ true → a || b ≡ true
or_right true b h = refl
or_right false b h = h

or_cases : (a b : Bool) → a || b ≡ true → (a ≡ true) ⊎ (b ≡ true)
or_cases true b h = inl refl
or_cases false b h = inr h

-- each of the places is one of them
pass_own : (all some : Places) → ((place : Site) → is_one_of some place ≡ true → is_one_of all place ≡ true) → pass (is_one_of all) some ≡ true
unfolding is_one_of
pass_own all nowhere within = refl
pass_own all (here one) within = within one (same_self one)
pass_own all (both some others) within =
    and_both (pass (is_one_of all) some) (pass (is_one_of all) others)
    (pass_own all some (λ place h. within place (or_left (is_one_of some place) (is_one_of others place) h)))
    (pass_own all others (λ place h. within place (or_right (is_one_of some place) (is_one_of others place) h)))

found : (places : Places) (place : Site) → is_one_of places place ≡ true → IsOneOf places place
unfolding is_one_of
found nowhere place h = absurd (let f : false ≡ true = h in cc)
found (here one) place h = same_is one place h
found (both some others) place h = elim (or_cases (is_one_of some place) (is_one_of others place) h) [
  | inl k ↦ inl (found some place k)
  | inr k ↦ inr (found others place k)
]

pub one_of : (places : Places) (place : Site) → ((test : Site → Bool) → pass test places ≡ true → test place ≡ true) → IsOneOf places place
one_of places place passes = found places place (passes (is_one_of places) (pass_own places places (λ p h. h)))
