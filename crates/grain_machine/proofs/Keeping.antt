-- What stays of a stack.
use Rattle.std.proofs.Common.{◌≡◌, ℕ, ◌+◌, ◌-◌, ◌<◌, ◌≤◌, slice_set, zero, suc, List, [], ◌∷◌, ◌++◌, drop, length, take, refl, sym, ap, ◌∙◌, arith}
use Rattle.std.proofs.lemmas.List.{append-nil, drop_all, length-append, length-drop, length-take-le, set_split, take_at}
use Rattle.std.proofs.Math.Seq.{take-append-add, take-nil}
use borrow.Rule.Slice.PartMut.{put_mid}
use Rattle.grain_machine.specs.Values.{KeepsFirst, below, rotated, topmost}

-- a stack that stays
pub kept_self : {X : Type 0} (n : ℕ) (xs : List X) → KeepsFirst n xs xs
kept_self zero xs = sym (take-nil (length xs))
kept_self (suc n) [] = refl
kept_self (suc n) (x ∷ xs) = ap (λ (ys : List _). x ∷ ys) (kept_self n xs)

-- a stack of which the rest was replaced
pub kept_before : {X : Type 0} (n : ℕ) (xs others : List X) → n ≤ length xs → KeepsFirst n xs (take n xs ++ others)
kept_before zero xs others h = sym (take-nil (length others))
kept_before (suc n) [] others h = absurd (omega arith)
kept_before {X} (suc n) (x ∷ xs) others h = ap (λ (ys : List X). x ∷ ys) (kept_before n xs others (omega arith))

-- a stack that grew
pub kept_more : {X : Type 0} (n : ℕ) (xs others : List X) → n ≤ length xs → KeepsFirst n xs (xs ++ others)
kept_more zero xs others h = sym (take-nil (length (xs ++ others)))
kept_more (suc n) [] others h = absurd (omega arith)
kept_more {X} (suc n) (x ∷ xs) others h = ap (λ (ys : List X). x ∷ ys) (kept_more n xs others (omega arith))

-- a stack that is cut
pub kept_cut : {X : Type 0} (n cut : ℕ) (xs ys : List X) → KeepsFirst n xs ys → KeepsFirst n xs (take cut ys)
kept_cut zero cut xs ys e = sym (take-nil (length (take cut ys)))
kept_cut (suc n) zero xs ys e = refl
kept_cut (suc n) (suc cut) xs [] e = refl
kept_cut (suc n) (suc cut) [] (y ∷ ys) e = absurd (let f : y ∷ take n ys ≡ [] = e in cc)
kept_cut (suc n) (suc cut) (x ∷ xs) (y ∷ ys) e =
    let same : y ∷ take n ys ≡ x ∷ take (length ys) (take n xs) = e in
    let first : y ≡ x = cc in
    let rest : take n ys ≡ take (length ys) (take n xs) = cc in
    let left : take n (take cut ys) ≡ take (length (take cut ys)) (take n xs) = kept_cut n cut xs ys rest in
    let all : y ∷ take n (take cut ys) ≡ x ∷ take (length (take cut ys)) (take n xs) = cc in
    all

-- what stays twice
pub kept_on : {X : Type 0} (n : ℕ) (xs ys zs : List X) → length ys ≡ length xs → KeepsFirst n xs ys → KeepsFirst n ys zs → KeepsFirst n xs zs
kept_on {X} n xs ys zs long e k =
    let first : take n ys ≡ take n xs = e ∙ ap (λ (m : ℕ). take m (take n xs)) long ∙ sym (kept_self n xs) in
    k ∙ ap (λ (l : List X). take (length zs) l) first

pub length-below : {X : Type 0} (n : ℕ) (xs : List X) → length (below n xs) ≡ length xs - n
length-below n xs = length-take-le (length xs - n) xs (omega arith)

pub length-replaced : {X : Type 0} (n : ℕ) (xs others : List X) → length (below n xs ++ others) ≡ length xs - n + length others
length-replaced n xs others = length-append (below n xs) others ∙ ap (λ (m : ℕ). m + length others) (length-below n xs)

pub length-rotated : {X : Type 0} (depth : ℕ) (xs : List X) → depth + 1 ≤ length xs → length (rotated depth xs) ≡ length xs
length-rotated depth xs there =
    let part = topmost (depth + 1) xs in
    let whole : length part ≡ length xs - (length xs - (depth + 1)) = length-drop (length xs - (depth + 1)) xs in
    let first : length (drop depth part) ≡ length part - depth = length-drop depth part in
    let rest : length (take depth part) ≡ depth = length-take-le depth part (omega (arith, whole, there)) in
    let both : length (drop depth part ++ take depth part) ≡ length (drop depth part) + length (take depth part) = length-append (drop depth part) (take depth part) in
    length-replaced (depth + 1) xs (drop depth part ++ take depth part) ∙ omega (arith, whole, first, rest, both, there)

-- the last element is set
pub set-last : {X : Type 0} (xs : List X) (n : ℕ) (x : X) → n ≡ length xs → 0 < n → slice_set xs (n - 1) x ≡ below 1 xs ++ x ∷ []
set-last {X} xs n x long some =
    set_split xs (n - 1) x (omega arith)
    ∙ ap (λ (ys : List X). take (n - 1) xs ++ x ∷ ys) (drop_all (suc (n - 1)) xs (omega arith))
    ∙ ap (λ (m : ℕ). take (m - 1) xs ++ x ∷ []) long

-- the topmost were written
pub put_mid-last : {X : Type 0} (n k : ℕ) (xs ys : List X) → n ≡ length xs → k ≤ n → put_mid (n - k) (length xs - (n - k)) xs ys ≡ below k xs ++ ys
put_mid-last {X} n k xs ys long within =
    let rest : length (drop (n - k) xs) ≤ length xs - (n - k) = omega (arith, length-drop (n - k) xs) in
    ap (λ (zs : List X). take (n - k) xs ++ (ys ++ zs)) (drop_all (length xs - (n - k)) (drop (n - k) xs) rest)
    ∙ ap (λ (zs : List X). take (n - k) xs ++ zs) (append-nil ys)
    ∙ ap (λ (m : ℕ). take (m - k) xs ++ ys) long

-- below what was replaced all is as it was
pub below-replaced : {X : Type 0} (k : ℕ) (xs ys : List X) → length ys ≡ k → k ≤ length xs → below k (below k xs ++ ys) ≡ below k xs
below-replaced k xs ys long within =
    let left : length (below k xs) ≡ length xs - k = length-below k xs in
    let all : length (below k xs ++ ys) ≡ length xs - k + length ys = length-replaced k xs ys in
    take_at (below k xs) ys (length (below k xs ++ ys) - k) (omega arith)

-- some of what was replaced is dropped
pub take-replaced : {X : Type 0} (n needed taken : ℕ) (xs ys : List X) → n ≡ length xs → needed ≤ n → taken ≤ needed
    → take (n - taken) (below needed xs ++ ys) ≡ below needed xs ++ take (needed - taken) ys
take-replaced {X} n needed taken xs ys long there within =
    let left : length (below needed xs) ≡ length xs - needed = length-below needed xs in
    let cut : n - taken ≡ length (below needed xs) + (needed - taken) = omega arith in
    ap (λ (m : ℕ). take m (below needed xs ++ ys)) cut ∙ take-append-add (below needed xs) ys (needed - taken)
