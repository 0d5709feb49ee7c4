-- Positions that are written from slots, part by part.
use Rattle.std.proofs.Common.{◌≡◌, ℕ, ◌+◌, ◌<◌, zero, suc, List, [], ◌∷◌, ◌++◌, length, take, drop, get_or, map, slice_set, Option, None, refl, sym, ap, subst, ◌∙◌, arith}
use Rattle.std.specs.List.{All, flat_map}
use Rattle.std.proofs.lemmas.List.{drop-drop, drop-set-lt, get_or-drop, length-append, map-append, take_more_set}
use Rattle.grain_base.specs.Place.{place_of}
use Rattle.grain_base.specs.declared.pos.Site.{Site}
use Rattle.grain_base.specs.declared.position.Position.{Position}
use Rattle.grain_bytecode.proofs.SlotStreams.{flat_map-next, flat_map-push}
use Rattle.grain.specs.Sidecars.{slot_place}
use Rattle.grain.specs.Slots.{IsDrawn, drawn}

drop_nil : {A : Type 0} (n : ℕ) → drop {A = A} n [] ≡ []
drop_nil zero = refl
drop_nil (suc n) = refl

drawn_more : (m n : ℕ) (slots : List (Option Site)) → drawn (m + n) slots ≡ drawn m slots ++ drawn n (drop m slots)
drawn_more zero n slots = ap (λ k. drawn k slots) (let h : 0 + n ≡ n = omega arith in h)
drawn_more (suc m) n [] = ap (λ k. drawn k []) (let h : suc m + n ≡ suc (m + n) = omega arith in h) ∙ ap (λ ps. None ∷ ps) (drawn_more m n [] ∙ ap (λ (s : List (Option Site)). drawn m [] ++ drawn n s) (drop_nil m))
drawn_more (suc m) n (slot ∷ slots) = ap (λ k. drawn k (slot ∷ slots)) (let h : suc m + n ≡ suc (m + n) = omega arith in h) ∙ ap (λ ps. slot_place slot ∷ ps) (drawn_more m n slots)

-- one part after another
pub drawn_both : (a b c d : List Position) (slots left rest : List (Option Site)) → IsDrawn a b slots left → IsDrawn c d left rest → IsDrawn (a ++ c) (b ++ d) slots rest
drawn_both a b c d slots left rest h k = record {
  places =
      map-append place_of b d
      ∙ (λ i. h.places i ++ (k.places ∙ ap (drawn (length c)) h.rest) i)
      ∙ sym (ap (λ n. drawn n slots) (length-append a c) ∙ drawn_more (length a) (length c) slots);
  rest = k.rest ∙ ap (drop (length c)) h.rest ∙ drop-drop (length c) (length a) slots ∙ ap (λ n. drop n slots) (sym (length-append a c));
}

-- none is drawn where no slot is left
pub drawn_none : (n : ℕ) → All (λ p. p ≡ None) (drawn n [])
drawn_none zero k d l = absurd (omega arith)
drawn_none (suc n) zero d l = refl
drawn_none (suc n) (suc k) d l = drawn_none n k d (omega arith)

-- as many as there are slots
pub drawn_all : (slots : List (Option Site)) → drawn (length slots) slots ≡ map slot_place slots
drawn_all [] = refl
drawn_all (slot ∷ slots) = ap (λ ps. slot_place slot ∷ ps) (drawn_all slots)

-- the next element of two lists that are still the same from it on
same_next : {X : Type 0} (xs ys : List X) (i : ℕ) (d : X) → drop i ys ≡ drop i xs → get_or ys i d ≡ get_or xs i d
same_next xs ys i d e =
    ap (λ n. get_or ys n d) (let h : i ≡ i + 0 = omega arith in h) ∙ sym (get_or-drop i ys 0 d)
    ∙ ap (λ zs. get_or zs 0 d) e
    ∙ get_or-drop i xs 0 d ∙ ap (λ n. get_or xs n d) (let h : i + 0 ≡ i = omega arith in h)

pub drawn_next : {X : Type 0} (f : X → List Position) (xs ys : List X) (i : ℕ) (y d : X) (slots left rest : List (Option Site)) → i < length xs → length ys ≡ length xs → drop i ys ≡ drop i xs
    → IsDrawn (flat_map f (take i xs)) (flat_map f (take i ys)) slots left → IsDrawn (f (get_or ys i d)) (f y) left rest
    → IsDrawn (flat_map f (take (i + 1) xs)) (flat_map f (take (i + 1) (slice_set ys i y))) slots rest
drawn_next f xs ys i y d slots left rest l len e h k =
    let inside : i < length ys = omega arith in
    let before : flat_map f (take (i + 1) xs) ≡ flat_map f (take i xs) ++ f (get_or ys i d) =
    flat_map-next f xs i d l ∙ ap (λ x. flat_map f (take i xs) ++ f x) (sym (same_next xs ys i d e)) in
    let after : flat_map f (take (i + 1) (slice_set ys i y)) ≡ flat_map f (take i ys) ++ f y =
    ap (flat_map f) (take_more_set ys i y inside) ∙ flat_map-push f (take i ys) y in
    subst (λ (a : List Position). IsDrawn a (flat_map f (take (i + 1) (slice_set ys i y))) slots rest) (sym before)
    (subst (λ (b : List Position). IsDrawn (flat_map f (take i xs) ++ f (get_or ys i d)) b slots rest) (sym after)
    (drawn_both (flat_map f (take i xs)) (flat_map f (take i ys)) (f (get_or ys i d)) (f y) slots left rest h k))

pub later_next : {X : Type 0} (xs ys : List X) (i : ℕ) (y : X) → drop i ys ≡ drop i xs → drop (i + 1) (slice_set ys i y) ≡ drop (i + 1) xs
later_next xs ys i y e =
    drop-set-lt (i + 1) ys i y (omega arith) ∙ sym (drop-drop 1 i ys) ∙ ap (drop 1) e ∙ drop-drop 1 i xs
