-- The first element that passes a test, from one element to the next.
use Rattle.std.proofs.Common.{◌≡◌, ℕ, ◌+◌, ◌<◌, Bool, true, false, cond, List, [], ◌∷◌, length, take, drop, get_or, Option, Some, None, is_some, option_map, refl, sym, ap, ◌∙◌}
use Rattle.std.specs.List.{find}
use Rattle.std.specs.Option.{option_or}
use Rattle.std.proofs.lemmas.Bool.{false≢true}
use Rattle.std.proofs.lemmas.List.{take_more, take-append-drop}
use Rattle.std.proofs.lemmas.List.Folds.{find-append}

-- the first of one element more is the first of those before, or else that element
pub first_more : {X : Type 0} (p : X → Bool) (xs : List X) (i : ℕ) (x : X) → i < length xs → x ≡ get_or xs i x → find p (take (i + 1) xs) ≡ option_or (find p (take i xs)) (cond (p x) (Some x) None)
first_more p xs i x l e =
    ap (find p) (take_more xs i x l)
    ∙ find-append p (take i xs) (get_or xs i x ∷ [])
    ∙ ap (λ y. option_or (find p (take i xs)) (cond (p y) (Some y) None)) (sym e)

-- none passes, and the next doesn't
pub none_more : {X : Type 0} (p : X → Bool) (xs : List X) (i : ℕ) (x : X) → i < length xs → x ≡ get_or xs i x → find p (take i xs) ≡ None → p x ≡ false → find p (take (i + 1) xs) ≡ None
none_more p xs i x l e none f = first_more p xs i x l e ∙ (λ k. option_or (none k) (cond (f k) (Some x) None))

-- none passes before an element that does
pub first_is : {X : Type 0} (p : X → Bool) (xs : List X) (i : ℕ) (x : X) → i < length xs → x ≡ get_or xs i x → find p (take i xs) ≡ None → p x ≡ true → find p xs ≡ Some x
first_is p xs i x l e none t =
    ap (find p) (sym (take-append-drop (i + 1) xs))
    ∙ find-append p (take (i + 1) xs) (drop (i + 1) xs)
    ∙ ap (λ o. option_or o (find p (drop (i + 1) xs))) (first_more p xs i x l e ∙ (λ k. option_or (none k) (cond (t k) (Some x) None)))

or_none : {X : Type 0} (o : Option X) → option_or o None ≡ o
or_none None = refl
or_none (Some x) = refl

or_kept : {A X : Type 0} (v : A → X) (kept : Option A) (o : Option X) → is_some kept ≡ true → option_or (option_map v kept) o ≡ option_map v kept
or_kept v None o some = absurd (false≢true some)
or_kept v (Some a) o some = refl

or_next : {A X : Type 0} (v : A → X) (kept : Option A) (o : Option X) → is_some kept ≡ false → option_or (option_map v kept) o ≡ o
or_next v None o none = refl
or_next v (Some a) o none = absurd (false≢true (sym none))

-- what is kept is the first of those before: it stays the first where there was one
pub kept_stays : {A X : Type 0} (v : A → X) (p : X → Bool) (xs : List X) (i : ℕ) (x : X) (kept : Option A) → i < length xs → x ≡ get_or xs i x
    → option_map v kept ≡ find p (take i xs) → is_some kept ≡ true → option_map v kept ≡ find p (take (i + 1) xs)
kept_stays v p xs i x kept l e is some =
    sym (first_more p xs i x l e ∙ ap (λ o. option_or o (cond (p x) (Some x) None)) (sym is) ∙ or_kept v kept (cond (p x) (Some x) None) some)

-- and where the next doesn't pass
pub kept_fails : {X : Type 0} (p : X → Bool) (xs : List X) (i : ℕ) (x : X) (kept : Option X) → i < length xs → x ≡ get_or xs i x → kept ≡ find p (take i xs) → p x ≡ false → kept ≡ find p (take (i + 1) xs)
kept_fails p xs i x kept l e is f =
    is ∙ sym (first_more p xs i x l e ∙ ap (λ b. option_or (find p (take i xs)) (cond b (Some x) None)) f ∙ or_none (find p (take i xs)))

-- where none was kept, the next is the first if it passes
pub kept_first : {A X : Type 0} (v : A → X) (p : X → Bool) (xs : List X) (i : ℕ) (x : X) (kept : Option A) → i < length xs → x ≡ get_or xs i x
    → option_map v kept ≡ find p (take i xs) → is_some kept ≡ false → p x ≡ true → Some x ≡ find p (take (i + 1) xs)
kept_first v p xs i x kept l e is none t =
    sym (first_more p xs i x l e
    ∙ (λ k. option_or (sym is k) (cond (t k) (Some x) None))
    ∙ or_next v kept (Some x) none)
