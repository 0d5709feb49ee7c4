-- Places that pass a test.
use Rattle.std.proofs.Common.{◌≡◌, ℕ, ◌<◌, zero, suc, Bool, true, false, List, [], ◌∷◌, ◌++◌, drop, length, get_or, map, take, refl, ap, ◌∙◌, arith}
use Rattle.std.specs.Prelude.{◌&&◌}
use Rattle.rhai_emit.specs.Places.{Places, all_of, pass}
use Rattle.grain_base.specs.declared.pos.Site.{Site}

pub and_left : (a b : Bool) → a && b ≡ true → a ≡ true
and_left true b h = refl
and_left false b h = h

pub and_right : (a b : Bool) → a && b ≡ true → b ≡ true
and_right true b h = h
and_right false b h = absurd (let f : false ≡ true = h in cc)

pub and_both : (a b : Bool) → a ≡ true → b ≡ true → a && b ≡ true
and_both true b h k = k
and_both false b h k = h

-- where the places of all entries pass, those of each do
pub each_pass : {X : Type 0} (f : X → Places) (test : Site → Bool) (xs : List X) (i : ℕ) (x : X) → i < length xs → x ≡ get_or xs i x → pass test (all_of (map f xs)) ≡ true → pass test (f x) ≡ true
each_pass f test [] i x l e h = absurd (omega arith)
each_pass f test (y ∷ ys) zero x l e h = ap (λ z. pass test (f z)) e ∙ and_left (pass test (f y)) (pass test (all_of (map f ys))) h
each_pass f test (y ∷ ys) (suc i) x l e h = each_pass f test ys i x (omega arith) e (and_right (pass test (f y)) (pass test (all_of (map f ys))) h)

-- where the places of all entries pass, those of the first ones do, and those of the others
pub take_pass : {X : Type 0} (f : X → Places) (test : Site → Bool) (n : ℕ) (xs : List X) → pass test (all_of (map f xs)) ≡ true → pass test (all_of (map f (take n xs))) ≡ true
take_pass f test zero [] h = refl
take_pass f test (suc n) [] h = refl
take_pass f test zero (y ∷ ys) h = refl
take_pass f test (suc n) (y ∷ ys) h =
    and_both (pass test (f y)) (pass test (all_of (map f (take n ys)))) (and_left (pass test (f y)) (pass test (all_of (map f ys))) h) (take_pass f test n ys (and_right (pass test (f y)) (pass test (all_of (map f ys))) h))

pub drop_pass : {X : Type 0} (f : X → Places) (test : Site → Bool) (n : ℕ) (xs : List X) → pass test (all_of (map f xs)) ≡ true → pass test (all_of (map f (drop n xs))) ≡ true
drop_pass f test zero [] h = refl
drop_pass f test (suc n) [] h = refl
drop_pass f test zero (y ∷ ys) h = h
drop_pass f test (suc n) (y ∷ ys) h = drop_pass f test n ys (and_right (pass test (f y)) (pass test (all_of (map f ys))) h)

-- where the places of all entries pass, those of the last one do, and those of the entries before it
pub front_pass : {X : Type 0} (f : X → Places) (test : Site → Bool) (xs : List X) (y : X) → pass test (all_of (map f (xs ++ y ∷ []))) ≡ true → pass test (all_of (map f xs)) ≡ true
front_pass f test [] y h = refl
front_pass f test (x ∷ xs) y h =
    and_both (pass test (f x)) (pass test (all_of (map f xs))) (and_left (pass test (f x)) (pass test (all_of (map f (xs ++ y ∷ [])))) h) (front_pass f test xs y (and_right (pass test (f x)) (pass test (all_of (map f (xs ++ y ∷ [])))) h))

pub last_pass : {X : Type 0} (f : X → Places) (test : Site → Bool) (xs : List X) (y : X) → pass test (all_of (map f (xs ++ y ∷ []))) ≡ true → pass test (f y) ≡ true
last_pass f test [] y h = and_left (pass test (f y)) true h
last_pass f test (x ∷ xs) y h = last_pass f test xs y (and_right (pass test (f x)) (pass test (all_of (map f (xs ++ y ∷ [])))) h)
