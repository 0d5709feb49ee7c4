-- Elements of lists, and lists of what functions give.
use Rattle.std.proofs.Common.{◌≡◌, ℕ, zero, suc, ◌<◌, inl, inr, List, [], ◌∷◌, ◌++◌, get_or, length, map, refl, subst, sym, ap, ◌∙◌, arith}
use Rattle.std.specs.List.{AllByRecursion, AllZip, Contains, flat_map}
use Rattle.std.proofs.lemmas.List.Concat.{flat_map-cons}
use Rattle.std.proofs.Math.ListN.{get_or-map}
use Rattle.std.proofs.lemmas.List.{get_or-map as got_mapped, length-map}
use Rattle.std.proofs.lemmas.List.Elements.{Contains-append_cases, Contains-append_left, Contains-append_right, Contains-get_or}

-- what a list has that is mapped is the image of an element
from_map : {X Y : Type 0} (f : X → Y) (xs : List X) (d : X) (y : Y) → Contains (map f xs) y → (x : X) × Contains xs x × (f x ≡ y)
from_map f xs d y h =
    let inside : h.0 < length xs = omega (arith, h.1, length-map xs f) in
    (get_or xs h.0 d, Contains-get_or xs h.0 d inside, sym (got_mapped f xs h.0 d y inside) ∙ h.2)

into_map : {X Y : Type 0} (f : X → Y) (xs : List X) (x : X) → Contains xs x → Contains (map f xs) (f x)
into_map f xs x h = (h.0, omega (arith, h.1, length-map xs f), get_or-map f xs h.0 x ∙ ap f h.2)

-- the images of the elements that two lists share
pub mapped : {X Y : Type 0} (f : X → Y) (xs ys : List X) (d : X) → ((x : X) → Contains xs x → Contains ys x) → (y : Y) → Contains (map f xs) y → Contains (map f ys) y
mapped f xs ys d shared y h =
    let found = from_map f xs d y h in
    subst (λ z. Contains (map f ys) z) found.2 (into_map f ys found.0 (shared found.0 found.1))

-- those of two lists, one after the other
pub appended : {X : Type 0} (xs ys us vs : List X) (x : X) → (Contains xs x → Contains us x) → (Contains ys x → Contains vs x) → Contains (xs ++ ys) x → Contains (us ++ vs) x
appended xs ys us vs x left right h = elim (Contains-append_cases xs ys x h) [ inl a ↦ Contains-append_left us vs x (left a) | inr b ↦ Contains-append_right us vs x (right b) ]

-- what holds of each element holds by recursion
pub by_recursion : {X : Type 0} (P : X → Type 0) (xs : List X) → ((x : X) → Contains xs x → P x) → AllByRecursion P xs
by_recursion P [] h = tt
by_recursion P (x ∷ xs) h = (h x (0, omega arith, refl), by_recursion P xs (λ y has. h y (Contains-append_right (x ∷ []) xs y has)))

-- a list of one has that one alone
alone : {X : Type 0} (y x : X) → Contains (y ∷ []) x → y ≡ x
alone y x (zero, inside, is) = is
alone y x (suc i, inside, is) = absurd (omega arith)

pub of_recursion : {X : Type 0} (P : X → Type 0) (xs : List X) (x : X) → AllByRecursion P xs → Contains xs x → P x
of_recursion P [] x h has = absurd (omega (arith, has.1))
of_recursion P (y ∷ ys) x h has = elim (Contains-append_cases (y ∷ []) ys x has) [ inl a ↦ subst P (alone y x a) h.0 | inr b ↦ of_recursion P ys x h.1 b ]

-- the lists at one place of two
pub at_place : {A B X : Type 0} (R : A → B → Type 0) (f : A → List X) (g : B → List X) → ((a : A) (b : B) → R a b → (x : X) → Contains (f a) x → Contains (g b) x) → (xs : List A) (ys : List B)
    → AllZip R xs ys → (i : ℕ) (x : X) → Contains (get_or (map f xs) i []) x → Contains (get_or (map g ys) i []) x
at_place R f g leads [] [] h i x has = has
at_place R f g leads [] (y ∷ ys) h i x has = absurd h
at_place R f g leads (a ∷ xs) [] h i x has = absurd h
at_place R f g leads (a ∷ xs) (y ∷ ys) h zero x has = leads a y h.0 x has
at_place R f g leads (a ∷ xs) (y ∷ ys) h (suc i) x has = at_place R f g leads xs ys h.1 i x has

-- functions that agree give the same lists
pub map_same : {A X : Type 0} (f g : A → X) → ((a : A) → f a ≡ g a) → (xs : List A) → map f xs ≡ map g xs
map_same f g same [] = refl
map_same f g same (x ∷ xs) = let here = same x in let rest = map_same f g same xs in cc

pub flat_same : {A X : Type 0} (f g : A → List X) → ((a : A) → f a ≡ g a) → (xs : List A) → flat_map f xs ≡ flat_map g xs
flat_same f g same [] = refl
flat_same f g same (x ∷ xs) = flat_map-cons f x xs ∙ ap (λ ys. ys ++ flat_map f xs) (same x) ∙ ap (λ ys. g x ++ ys) (flat_same f g same xs) ∙ sym (flat_map-cons g x xs)

-- what is read of each through its row
pub map_by_rows : {A R X : Type 0} (f : A → X) (row : A → R) (g : R → X) → ((a : A) → f a ≡ g (row a)) → (xs : List A) → map f xs ≡ map g (map row xs)
map_by_rows f row g by_row [] = refl
map_by_rows f row g by_row (a ∷ xs) = let here = by_row a in let rest = map_by_rows f row g by_row xs in cc

pub flat_by_rows : {A R X : Type 0} (f : A → List X) (row : A → R) (g : R → List X) → ((a : A) → f a ≡ g (row a)) → (xs : List A) → flat_map f xs ≡ flat_map g (map row xs)
flat_by_rows f row g by_row [] = refl
flat_by_rows f row g by_row (a ∷ xs) =
    flat_map-cons f a xs ∙ ap (λ ys. ys ++ flat_map f xs) (by_row a) ∙ ap (λ ys. g (row a) ++ ys) (flat_by_rows f row g by_row xs) ∙ sym (flat_map-cons g (row a) (map row xs))
