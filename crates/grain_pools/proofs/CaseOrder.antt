-- Pairs in order: what is sorted by both numbers is what inserting one after another makes.
use Rattle.std.proofs.Common.{◌≡◌, ◌∙◌, ℕ, ◌+◌, ◌<◌, ◌≤◌, Bool, true, false, cond, List, [], ◌∷◌, length, get_or, refl, suc, sym, ap, arith, sum_by}
use Rattle.std.specs.Cmp.{IsStrictWeakOrder}
use Rattle.std.specs.List.Sorted.{IsPermutation, IsSortedBy}
use Rattle.std.specs.Ordering.{is_lt, nat_cmp, ordering_then}
use Rattle.std.proofs.lemmas.Bool.Decides.{nat_tests}
use Rattle.std.proofs.lemmas.List.Sums.{sum_by-cons}
use Rattle.std.proofs.lemmas.List.Sorted.{sorted_far, sum_by-IsPermutation}
use Rattle.grain_pools.specs.LookedUp.{in_order, insert_case, is_before}

abbrev Pair : Type 0
Pair = ℕ × ℕ

-- the order of the numbers of two pairs
abbrev lt : ℕ → ℕ → ℕ → ℕ → Bool
lt a b c d = is_lt (ordering_then (nat_cmp a c) (nat_cmp b d))

lt-one_way : (a b c d : ℕ) → lt a b c d ≡ true → lt c d a b ≡ false
lt-one_way a b c d h = grind (arith, nat_tests)

lt-chain : (a b c d e f : ℕ) → lt a b c d ≡ false → lt c d e f ≡ false → lt a b e f ≡ false
lt-chain a b c d e f h k = grind (arith, nat_tests)

lt-same_first : (a b c d : ℕ) → lt a b c d ≡ false → lt c d a b ≡ false → a ≡ c
lt-same_first a b c d h k = grind (arith, nat_tests)

lt-same_second : (a b c d : ℕ) → lt a b c d ≡ false → lt c d a b ≡ false → b ≡ d
lt-same_second a b c d h k = grind (arith, nat_tests)

one_way : (x y : Pair) → is_before x y ≡ true → is_before y x ≡ false
one_way x y = lt-one_way x.0 x.1 y.0 y.1

chain : (x y z : Pair) → is_before x y ≡ false → is_before y z ≡ false → is_before x z ≡ false
chain x y z = lt-chain x.0 x.1 y.0 y.1 z.0 z.1

order : IsStrictWeakOrder is_before
order = record { one_way = one_way; chain = chain }

same : (x y : Pair) → is_before x y ≡ false → is_before y x ≡ false → x ≡ y
same x y h k =
    let first : x.0 ≡ y.0 = lt-same_first x.0 x.1 y.0 y.1 h k in
    let second : x.1 ≡ y.1 = lt-same_second x.0 x.1 y.0 y.1 h k in
    ap (λ (a : ℕ). let p : Pair = (a, x.1) in p) first ∙ ap (λ (b : ℕ). let p : Pair = (y.0, b) in p) second

not_before_itself : (x : Pair) → is_before x x ≡ false
not_before_itself x =
    let P : Bool → Type 0 = λ b. is_before x x ≡ b → is_before x x ≡ false in
    let both : (b : Bool) → P b = λ b. elim b as P [ true ↦ λ e. one_way x x e | false ↦ λ e. e ] in
    both (is_before x x) refl

-- none of these comes before it
abbrev NoneBefore : Pair → List Pair → Type 0
NoneBefore x [] = Unit {0}
NoneBefore x (y ∷ ys) = (is_before y x ≡ false) × NoneBefore x ys

-- none comes before one that stands in front of it
abbrev IsRising : List Pair → Type 0
IsRising [] = Unit {0}
IsRising (x ∷ xs) = NoneBefore x xs × IsRising xs

later : (x y : Pair) (zs : List Pair) → is_before y x ≡ false → NoneBefore y zs → NoneBefore x zs
later x y [] h n = tt
later x y (z ∷ zs) h n = (chain z y x n.0 h, later x y zs h n.1)

none_in_insertion : (x c : Pair) (ds : List Pair) → is_before c x ≡ false → NoneBefore x ds → NoneBefore x (insert_case c ds)
none_in_insertion x c [] h n = (h, tt)
none_in_insertion x c (d ∷ ds) h n =
    let again = none_in_insertion x c ds h n.1 in
    elim (is_before d c) as (λ b. NoneBefore x (cond b (d ∷ insert_case c ds) (c ∷ d ∷ ds))) [ true ↦ (n.0, again) | false ↦ (h, n) ]

insertion_rises : (c : Pair) (ds : List Pair) → IsRising ds → IsRising (insert_case c ds)
insertion_rises c [] r = (tt, tt)
insertion_rises c (d ∷ ds) r =
    let again = insertion_rises c ds r.1 in
    let P : Bool → Type 0 = λ b. is_before d c ≡ b → IsRising (cond b (d ∷ insert_case c ds) (c ∷ d ∷ ds)) in
    let both : (b : Bool) → P b = λ b. elim b as P [ true ↦ λ e. (none_in_insertion d c ds (one_way d c e) r.0, again) | false ↦ λ e. ((e, later c d ds e r.0), r) ] in
    both (is_before d c) refl

in_order_rises : (cs : List Pair) → IsRising (in_order cs)
in_order_rises [] = tt
in_order_rises (c ∷ cs) = insertion_rises c (in_order cs) (in_order_rises cs)

sum_by-insertion : (f : Pair → ℕ) (c : Pair) (ds : List Pair) → sum_by f (insert_case c ds) ≡ f c + sum_by f ds
sum_by-insertion f c [] = sum_by-cons f c []
sum_by-insertion f c (d ∷ ds) =
    let again = sum_by-insertion f c ds in
    let first = sum_by-cons f d (insert_case c ds) in
    let second = sum_by-cons f c (d ∷ ds) in
    let third = sum_by-cons f d ds in
    elim (is_before d c) as (λ b. sum_by f (cond b (d ∷ insert_case c ds) (c ∷ d ∷ ds)) ≡ f c + sum_by f (d ∷ ds)) [ true ↦ omega arith | false ↦ second ]

sum_by-in_order : (f : Pair → ℕ) (cs : List Pair) → sum_by f (in_order cs) ≡ sum_by f cs
sum_by-in_order f [] = refl
sum_by-in_order f (c ∷ cs) =
    let first = sum_by-insertion f c (in_order cs) in
    let rest = sum_by-in_order f cs in
    omega (arith, sum_by-cons f c cs)

-- from a sort's clause, index by index
none_from_indices : (x : Pair) (ys : List Pair) → ((j : ℕ) (d : Pair) → j < length ys → is_before (get_or ys j d) x ≡ false) → NoneBefore x ys
none_from_indices x [] h = tt
none_from_indices x (y ∷ ys) h = (h 0 y (omega arith), none_from_indices x ys (λ j d q. h (suc j) d (omega arith)))

rising_from_indices : (xs : List Pair) → ((i j : ℕ) (d : Pair) → i ≤ j → j < length xs → is_before (get_or xs j d) (get_or xs i d) ≡ false) → IsRising xs
rising_from_indices [] h = tt
rising_from_indices (x ∷ xs) h =
    (none_from_indices x xs (λ j d q. h 0 (suc j) d (omega arith) (omega arith)), rising_from_indices xs (λ i j d p q. h (suc i) (suc j) d (omega arith) (omega arith)))

-- 1 for each pair that comes before this one
abbrev earlier : Pair → Pair → ℕ
earlier y z = cond (is_before z y) 1 0

none_counted : (y : Pair) (zs : List Pair) → NoneBefore y zs → sum_by (earlier y) zs ≡ 0
none_counted y [] n = refl
none_counted y (z ∷ zs) n =
    let here : earlier y z ≡ 0 = ap (λ b. cond b 1 0) n.0 in
    let rest = none_counted y zs n.1 in
    omega (arith, sum_by-cons (earlier y) z zs)

-- lists with equal sums: the first of one doesn't come before the first of the other, which rises
first_not_before : (x y : Pair) (xs ys : List Pair) → NoneBefore y ys → sum_by (earlier y) (x ∷ xs) ≡ sum_by (earlier y) (y ∷ ys) → is_before x y ≡ false
first_not_before x y xs ys n e =
    let none = none_counted y ys n in
    let itself : earlier y y ≡ 0 = ap (λ b. cond b 1 0) (not_before_itself y) in
    let P : Bool → Type 0 = λ b. is_before x y ≡ b → is_before x y ≡ false in
    let counted : is_before x y ≡ true → earlier y x ≡ 1 = λ t. ap (λ b. cond b 1 0) t in
    let both : (b : Bool) → P b = λ b. elim b as P [ true ↦ λ t. absurd (omega (arith, counted t, sum_by-cons (earlier y) x xs, sum_by-cons (earlier y) y ys)) | false ↦ λ t. t ] in
    both (is_before x y) refl

rising_lists_are_one : (xs ys : List Pair) → IsRising xs → IsRising ys → ((f : Pair → ℕ) → sum_by f xs ≡ sum_by f ys) → xs ≡ ys
rising_lists_are_one [] [] r s e = refl
rising_lists_are_one [] (y ∷ ys) r s e = absurd (omega (arith, e (λ _. 1), sum_by-cons (λ (_ : Pair). 1) y ys))
rising_lists_are_one (x ∷ xs) [] r s e = absurd (omega (arith, e (λ _. 1), sum_by-cons (λ (_ : Pair). 1) x xs))
rising_lists_are_one (x ∷ xs) (y ∷ ys) r s e =
    let head : x ≡ y = same x y (first_not_before x y xs ys s.0 (e (earlier y))) (first_not_before y x ys xs r.0 (sym (e (earlier x)))) in
    let rest : xs ≡ ys = rising_lists_are_one xs ys r.1 s.1 (λ f. omega (arith, e f, ap f head, sum_by-cons f x xs, sum_by-cons f y ys)) in
    cc

-- what a sort gives
pub sorted_in_order : (xs ys : List Pair) → IsPermutation xs ys → IsSortedBy is_before ys → ys ≡ in_order xs
sorted_in_order xs ys p s =
    rising_lists_are_one ys (in_order xs) (rising_from_indices ys (sorted_far is_before order ys s)) (in_order_rises xs) (λ f. sum_by-IsPermutation f xs ys p ∙ sym (sum_by-in_order f xs))
