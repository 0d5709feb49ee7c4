-- The starts of code by their ordinals.
use Rattle.std.proofs.Common.{◌≡◌, ℕ, ◌+◌, ◌≤◌, ◌⊎◌, inl, inr, suc, zero, List, [], ◌∷◌, length, slice_get, Some, sym, ap, subst, ◌∙◌, arith}
use Rattle.std.proofs.lemmas.Option.{same_Some}
use Rattle.grain_code.specs.InstructionTable.{width_of}
use Rattle.grain_code.specs.Split.{Split, StandsAt}
use Rattle.grain_code.specs.declared.op.Op.{Op}
use Rattle.grain_rules.proofs.OperationUniqueness.{stands_once}
use Rattle.grain_rules.proofs.ListedStarts.{placed_contains}
use Rattle.grain_rules.proofs.Splits.{SplitsFrom, split_above, split_splits, width_pos}

-- what follows the instruction of an ordinal has the next
follows : (code : List ℕ) (at : ℕ) (xs : List ℕ) (k a : ℕ) (op : Op) → SplitsFrom code at xs → slice_get xs k ≡ Some a → StandsAt code a op
    → (slice_get xs (suc k) ≡ Some (a + width_of op)) ⊎ (a + width_of op ≡ length code)
follows code at [] k a op h e i = absurd (cc)
follows code at (x ∷ []) zero a op (s, l, (o, j, h)) e i =
    let same : at ≡ a = sym s ∙ same_Some x a e in
    let w : width_of o ≡ width_of op = ap width_of (stands_once code a o op (subst (λ (y : ℕ). StandsAt code y o) same j) i) in
    inr (omega (arith, h))
follows code at (x ∷ y ∷ ys) zero a op (s, l, (o, j, (t, m, h))) e i =
    let same : at ≡ a = sym s ∙ same_Some x a e in
    let w : width_of o ≡ width_of op = ap width_of (stands_once code a o op (subst (λ (z : ℕ). StandsAt code z o) same j) i) in
    let there : y ≡ a + width_of op = omega (arith, t) in
    inl (ap (λ (z : ℕ). Some z) there)
follows code at (x ∷ xs) (suc k) a op (s, l, (o, j, h)) e i = follows code (at + width_of o) xs k a op h e i

-- each address has one ordinal
apart : (code : List ℕ) (at : ℕ) (xs : List ℕ) (j k a : ℕ) → SplitsFrom code at xs → slice_get xs j ≡ Some a → slice_get xs k ≡ Some a → j ≡ k
apart code at [] j k a h e f = absurd (cc)
apart code at (x ∷ xs) zero zero a h e f = omega arith
apart code at (x ∷ xs) zero (suc k) a (s, l, (o, j, h)) e f =
    let same : x ≡ a = same_Some x a e in
    let above = split_above code (at + width_of o) xs a h (placed_contains xs k a f) in
    let w = width_pos o in
    absurd (omega arith)
apart code at (x ∷ xs) (suc j) zero a (s, l, (o, i, h)) e f =
    let same : x ≡ a = same_Some x a f in
    let above = split_above code (at + width_of o) xs a h (placed_contains xs j a e) in
    let w = width_pos o in
    absurd (omega arith)
apart code at (x ∷ xs) (suc j) (suc k) a (s, l, (o, i, h)) e f = ap suc (apart code (at + width_of o) xs j k a h e f)

-- no ordinal is above its address
low : (code : List ℕ) (at : ℕ) (xs : List ℕ) (k a : ℕ) → SplitsFrom code at xs → slice_get xs k ≡ Some a → at + k ≤ a
low code at [] k a h e = absurd (cc)
low code at (x ∷ xs) zero a (s, l, h) e = let same : x ≡ a = same_Some x a e in omega arith
low code at (x ∷ xs) (suc k) a (s, l, (o, i, h)) e = let more = low code (at + width_of o) xs k a h e in let w = width_pos o in omega arith

module _ (code starts : List ℕ) (split : Split code starts) where
  pub next_ordinal : (k a : ℕ) (op : Op) → slice_get starts k ≡ Some a → StandsAt code a op → (slice_get starts (suc k) ≡ Some (a + width_of op)) ⊎ (a + width_of op ≡ length code)
  next_ordinal k a op = follows code 0 starts k a op (split_splits code starts split)

  pub one_ordinal : (j k a : ℕ) → slice_get starts j ≡ Some a → slice_get starts k ≡ Some a → j ≡ k
  one_ordinal j k a = apart code 0 starts j k a (split_splits code starts split)

  pub ordinal_low : (k a : ℕ) → slice_get starts k ≡ Some a → k ≤ a
  ordinal_low k a e = let h = low code 0 starts k a (split_splits code starts split) e in omega arith
