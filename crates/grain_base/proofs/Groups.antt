-- Groups of seven bits: the number that they stand for, and that no groups begin others.
use Rattle.std.proofs.Common.{◌≡◌, ℕ, ◌+◌, ◌*◌, ◌%◌, ◌^◌, ◌<◌, ◌≤◌, inl, inr, List, [], ◌∷◌, ◌++◌, length, All, sum_by, refl, ap, ◌∙◌, arith, add-one}
use Rattle.std.specs.List.{enumerate_from}
use Rattle.std.proofs.Math.Nat.{pow-suc, pow-le-pow_right}
use Rattle.std.proofs.lemmas.Bool.{cases_lt}
use Rattle.std.proofs.lemmas.List.Elements.{All-head, All-tail}
use Rattle.std.proofs.lemmas.List.Sums.{sum_by-cons}
use Rattle.grain_base.specs.Varint.{AreGroups, number_of}

-- the number that groups stand for, of which the first is the k-th
weight : ℕ → List ℕ → ℕ
weight k bytes = sum_by (λ group. group.1 % 128 * 128 ^ group.0) (enumerate_from k bytes)

pub pow_more : (k : ℕ) → 128 ^ (k + 1) ≡ 128 * 128 ^ k
pow_more k = rw add-one (rw pow-suc (omega arith))

weight-cons : (k byte : ℕ) (bytes : List ℕ) → weight k (byte ∷ bytes) ≡ byte % 128 * 128 ^ k + weight (k + 1) bytes
unfolding weight
weight-cons k byte bytes = sum_by-cons (λ group. group.1 % 128 * 128 ^ group.0) (k, byte) (enumerate_from (k + 1) bytes)

weight-nil : (k : ℕ) → weight k [] ≡ 0
unfolding weight
weight-nil k = refl

weight-next : (k : ℕ) (bytes : List ℕ) → weight (k + 1) bytes ≡ 128 * weight k bytes
weight-next k [] = omega (arith, weight-nil k, weight-nil (k + 1))
weight-next k (byte ∷ bytes) = omega (arith, weight-cons (k + 1) byte bytes, weight-cons k byte bytes, ap (λ power. byte % 128 * power) (pow_more k), weight-next (k + 1) bytes)

pub number_of-cons : (byte : ℕ) (bytes : List ℕ) → number_of (byte ∷ bytes) ≡ byte % 128 + 128 * number_of bytes
unfolding weight
number_of-cons byte bytes = omega (arith, weight-cons 0 byte bytes, weight-next 0 bytes)

pub number_of-push : (bytes : List ℕ) (byte : ℕ) → number_of (bytes ++ byte ∷ []) ≡ number_of bytes + byte % 128 * 128 ^ length bytes
number_of-push [] byte = refl
number_of-push (first ∷ bytes) byte =
    let p : 128 ^ length (first ∷ bytes) ≡ 128 * 128 ^ length bytes = pow-suc 128 (length bytes) ∙ omega arith in
    number_of-cons first (bytes ++ byte ∷ []) ∙ omega (arith, number_of-push bytes byte, number_of-cons first bytes, ap (λ power. byte % 128 * power) p)

pub number_of-below : (bytes : List ℕ) → number_of bytes < 128 ^ length bytes
number_of-below [] = omega arith
number_of-below (byte ∷ bytes) = omega (arith, number_of-cons byte bytes, number_of-below bytes, pow-suc 128 (length bytes))

-- a byte that says that another follows
abbrev pub GoesOn : ℕ → Type 0
GoesOn byte = 0x80 ≤ byte

pub groups_push : (bytes : List ℕ) (byte : ℕ) → All GoesOn bytes → byte < 0x80 → AreGroups (bytes ++ byte ∷ [])
groups_push [] byte all last = last
groups_push (first ∷ []) byte all last = (All-head GoesOn first [] all, last)
groups_push (first ∷ next ∷ bytes) byte all last =
    (All-head GoesOn first (next ∷ bytes) all, groups_push (next ∷ bytes) byte (All-tail GoesOn first (next ∷ bytes) all) last)

pub groups_some : (bytes : List ℕ) → AreGroups bytes → 0 < length bytes
groups_some [] groups = absurd groups
groups_some (byte ∷ bytes) groups = omega arith

-- where each byte says that another follows, there are no groups
pub none_ends : (bytes : List ℕ) → All GoesOn bytes → AreGroups bytes → ⊥
none_ends [] all groups = groups
none_ends (byte ∷ []) all groups = absurd (omega (arith, All-head GoesOn byte [] all))
none_ends (byte ∷ next ∷ bytes) all groups = none_ends (next ∷ bytes) (All-tail GoesOn byte (next ∷ bytes) all) groups.1

-- no groups begin others
pub one_front : (a b x y : List ℕ) → AreGroups a → AreGroups b → a ++ x ≡ b ++ y → (a ≡ b) × (x ≡ y)
one_front [] b x y first second same = absurd first
one_front (p ∷ []) [] x y first second same = absurd second
one_front (p ∷ c ∷ cs) [] x y first second same = absurd second
one_front (p ∷ []) (q ∷ []) x y first second same = (cc, cc)
one_front (p ∷ []) (q ∷ d ∷ ds) x y first second same = let head : p ≡ q = cc in absurd (omega arith)
one_front (p ∷ c ∷ cs) (q ∷ []) x y first second same = let head : p ≡ q = cc in absurd (omega arith)
one_front (p ∷ c ∷ cs) (q ∷ d ∷ ds) x y first second same =
    let head : p ≡ q = cc in
    let tails : (c ∷ cs) ++ x ≡ (d ∷ ds) ++ y = cc in
    let more = one_front (c ∷ cs) (d ∷ ds) x y first.1 second.1 tails in
    (cc, more.1)

-- as many groups of one number are the same bytes
pub same_groups : (a b : List ℕ) → AreGroups a → AreGroups b → All (λ byte. byte < 256) a → All (λ byte. byte < 256) b → length a ≡ length b → number_of a ≡ number_of b → a ≡ b
same_groups [] b first second fit others long same = absurd first
same_groups (p ∷ []) [] first second fit others long same = absurd second
same_groups (p ∷ c ∷ cs) [] first second fit others long same = absurd second
same_groups (p ∷ []) (q ∷ d ∷ ds) first second fit others long same = absurd (omega arith)
same_groups (p ∷ c ∷ cs) (q ∷ []) first second fit others long same = absurd (omega arith)
same_groups (p ∷ []) (q ∷ []) first second fit others long same = let head : p ≡ q = omega (arith, number_of-cons p [], number_of-cons q []) in cc
same_groups (p ∷ c ∷ cs) (q ∷ d ∷ ds) first second fit others long same =
    let low = All-head (λ byte. byte < 256) p (c ∷ cs) fit in
    let other = All-head (λ byte. byte < 256) q (d ∷ ds) others in
    let head : p ≡ q = omega (arith, number_of-cons p (c ∷ cs), number_of-cons q (d ∷ ds)) in
    let rest : number_of (c ∷ cs) ≡ number_of (d ∷ ds) = omega (arith, number_of-cons p (c ∷ cs), number_of-cons q (d ∷ ds)) in
    let tails = same_groups (c ∷ cs) (d ∷ ds) first.1 second.1 (All-tail (λ byte. byte < 256) p (c ∷ cs) fit) (All-tail (λ byte. byte < 256) q (d ∷ ds) others) (omega arith) rest in
    cc

-- a number that doesn't fit fewer groups has no fewer
pub least_groups : (k m n : ℕ) → 128 ^ k ≤ n → n < 128 ^ m → k < m
least_groups k m n above below = elim (cases_lt k m) [ inl less ↦ less | inr more ↦ absurd (omega (arith, pow-le-pow_right {n = 128} (omega arith) more)) ]
