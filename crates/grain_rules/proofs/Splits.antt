-- Where instructions begin.
use Rattle.std.proofs.Common.{◌≡◌, ℕ, ◌+◌, ◌<◌, ◌≤◌, ◌⊎◌, inl, inr, suc, zero, List, [], ◌∷◌, ◌++◌, length, drop, refl, sym, ap, subst, ◌∙◌, arith}
use Rattle.std.specs.List.{Contains, flat_map}
use Rattle.std.proofs.lemmas.Bool.{cases_lt}
use Rattle.std.proofs.lemmas.List.{length-drop, drop_at, drop-drop}
use Rattle.std.proofs.lemmas.List.Concat.{flat_map-cons}
use Rattle.grain_code.specs.InstructionTable.{spelling, width_of}
use Rattle.grain_code.specs.Split.{AreInstructions, Begins, StandsAt, Split, starts_from}
use Rattle.grain_code.specs.declared.op.Op.{Op}
use Rattle.grain_code.proofs.Instructions.{begins_fits, begins_spelling, spelling_width}
use Rattle.grain_code.proofs.Splits.{one_split}
use Rattle.grain_rules.specs.Layout.{IsStart, IsBoundary}
use Rattle.grain_rules.proofs.OperationUniqueness.{stands_once}

pub width_pos : (op : Op) → 0 < width_of op
width_pos op = omega arith

-- an instruction ends in the code
pub op_fits : (code : List ℕ) (at : ℕ) (op : Op) → at ≤ length code → StandsAt code at op → at + width_of op ≤ length code
op_fits code at op inside h = let f = begins_fits (drop at code) op h in let l = length-drop at code in omega arith

-- from this address on the code is whole instructions, which begin at just these addresses
abbrev pub SplitsFrom : List ℕ → ℕ → List ℕ → Type 0
SplitsFrom code at [] = at ≡ length code
SplitsFrom code at (start ∷ starts) = (start ≡ at) × (at < length code) × ((op : Op) × StandsAt code at op × SplitsFrom code (at + width_of op) starts)

splits_from : (code : List ℕ) (at : ℕ) (ops : List Op) → at ≤ length code → AreInstructions (drop at code) ops → SplitsFrom code at (starts_from at ops)
splits_from code at [] inside are = let e = ap length are.whole in let l = length-drop at code in omega arith
splits_from code at (op ∷ ops) inside are =
    let cut : drop at code ≡ spelling op ++ flat_map spelling ops = are.whole ∙ flat_map-cons spelling op ops in
    let here : StandsAt code at op = subst (λ (b : List ℕ). Begins b op) (sym cut) (begins_spelling op (flat_map spelling ops) are.each.0) in
    let rest : drop (at + width_of op) code ≡ flat_map spelling ops = sym (drop-drop (width_of op) at code) ∙ ap (drop (width_of op)) cut
    ∙ drop_at (spelling op) (flat_map spelling ops) (width_of op) (spelling_width op) in
    let f = op_fits code at op inside here in
    let p = width_pos op in
    (refl, omega arith, (op, here, splits_from code (at + width_of op) ops f (record { each = are.each.1; whole = rest })))

pub split_splits : (code starts : List ℕ) → Split code starts → SplitsFrom code 0 starts
split_splits code starts split = subst (SplitsFrom code 0) (sym split.2) (splits_from code 0 split.0 (omega arith) split.1)

pub in_nil : {A : Type 0} (x : A) → Contains [] x → ⊥
in_nil x c = let h : c.0 < 0 = c.1 in omega arith

pub in_cons : {A : Type 0} (x : A) (xs : List A) (y : A) → Contains (x ∷ xs) y → (x ≡ y) ⊎ Contains xs y
in_cons x xs y (zero, l, e) = inl e
in_cons x xs y (suc k, l, e) = inr (k, (let h : suc k < suc (length xs) = l in omega arith), e)

pub in_head : {A : Type 0} (x : A) (xs : List A) → Contains (x ∷ xs) x
in_head x xs = (0, (let h : 0 < suc (length xs) = omega arith in h), refl)

pub in_tail : {A : Type 0} (x : A) (xs : List A) (y : A) → Contains xs y → Contains (x ∷ xs) y
in_tail x xs y (k, l, e) = (suc k, (let h : suc k < suc (length xs) = omega arith in h), e)

-- a start has an instruction
split_op : (code : List ℕ) (at : ℕ) (xs : List ℕ) (a : ℕ) → SplitsFrom code at xs → Contains xs a → (a < length code) × ((op : Op) × StandsAt code a op)
split_op code at [] a h c = absurd (in_nil a c)
split_op code at (x ∷ xs) a (e, l, (op, i, h)) c =
    elim (in_cons x xs a c) [
      | inl k ↦ let same : at ≡ a = sym e ∙ k in (omega arith, (op, subst (λ (y : ℕ). StandsAt code y op) same i))
      | inr k ↦ split_op code (at + width_of op) xs a h k
    ]

pub start_op : (code : List ℕ) (a : ℕ) → IsStart code a → (a < length code) × ((op : Op) × StandsAt code a op)
start_op code a s = split_op code 0 s.starts a (split_splits code s.starts s.split) s.here

-- the first start of a split, or the end
pub split_first : (code : List ℕ) (at : ℕ) (xs : List ℕ) → SplitsFrom code at xs → Contains xs at ⊎ (at ≡ length code)
split_first code at [] h = inr h
split_first code at (x ∷ xs) (e, l, h) = inl (subst (λ (y : ℕ). Contains (x ∷ xs) y) e (in_head x xs))

-- what follows an instruction is a start or the end
split_next : (code : List ℕ) (at : ℕ) (xs : List ℕ) (a : ℕ) (op : Op) → SplitsFrom code at xs → Contains xs a → StandsAt code a op → Contains xs (a + width_of op) ⊎ (a + width_of op ≡ length code)
split_next code at [] a op h c i = absurd (in_nil a c)
split_next code at (x ∷ xs) a op (e, l, (o, j, h)) c i =
    elim (in_cons x xs a c) [
      | inl k ↦
          let same : at ≡ a = sym e ∙ k in
          let ops : o ≡ op = stands_once code a o op (subst (λ (y : ℕ). StandsAt code y o) same j) i in
          let there : at + width_of o ≡ a + width_of op = let w : width_of o ≡ width_of op = ap width_of ops in omega arith in
          subst (λ (y : ℕ). Contains (x ∷ xs) y ⊎ (y ≡ length code)) there (elim (split_first code (at + width_of o) xs h) [ inl f ↦ inl (in_tail x xs (at + width_of o) f) | inr f ↦ inr f ])
      | inr k ↦ elim (split_next code (at + width_of o) xs a op h k i) [ inl f ↦ inl (in_tail x xs (a + width_of op) f) | inr f ↦ inr f ]
    ]

-- no start stands before the first
pub split_above : (code : List ℕ) (at : ℕ) (xs : List ℕ) (a : ℕ) → SplitsFrom code at xs → Contains xs a → at ≤ a
split_above code at [] a h c = absurd (in_nil a c)
split_above code at (x ∷ xs) a (e, l, (op, i, h)) c =
    elim (in_cons x xs a c) [
      | inl k ↦ omega arith
      | inr k ↦ let f = split_above code (at + width_of op) xs a h k in omega arith
    ]

-- no start stands inside an instruction
split_apart : (code : List ℕ) (at : ℕ) (xs : List ℕ) (a b : ℕ) (op : Op) → SplitsFrom code at xs → Contains xs a → Contains xs b → StandsAt code a op → a < b → a + width_of op ≤ b
split_apart code at [] a b op h c d i l = absurd (in_nil a c)
split_apart code at (x ∷ xs) a b op (e, m, (o, j, h)) c d i l =
    elim (in_cons x xs a c) [
      | inl k ↦
          let same : at ≡ a = sym e ∙ k in
          let ops : o ≡ op = stands_once code a o op (subst (λ (y : ℕ). StandsAt code y o) same j) i in
          let w : width_of o ≡ width_of op = ap width_of ops in
          elim (in_cons x xs b d) [ inl f ↦ absurd (omega arith) | inr f ↦ let g = split_above code (at + width_of o) xs b h f in omega arith ]
      | inr k ↦
          let g = split_above code (at + width_of o) xs a h k in
          elim (in_cons x xs b d) [ inl f ↦ absurd (omega arith) | inr f ↦ split_apart code (at + width_of o) xs a b op h k f i l ]
    ]

pub boundary_apart : (code : List ℕ) (a b : ℕ) (op : Op) → IsStart code a → IsBoundary code b → StandsAt code a op → a < b → a + width_of op ≤ b
boundary_apart code a b op s (inl t) i l =
    split_apart code 0 s.starts a b op (split_splits code s.starts s.split) s.here (subst (λ (xs : List ℕ). Contains xs b) (one_split code t.starts s.starts t.split s.split) t.here) i l
boundary_apart code a b op s (inr e) i l = let f = op_fits code a op (let k = (start_op code a s).0 in omega arith) i in omega arith

cases_eq_le : (m n : ℕ) → m ≤ n → (m ≡ n) ⊎ (m < n)
cases_eq_le m n h = elim (cases_lt m n) [ inl l ↦ inr l | inr g ↦ inl (omega arith) ]

-- from a start before a boundary, what follows is a start before it, or the boundary itself
pub next_start : (code : List ℕ) (a end : ℕ) (op : Op) → IsStart code a → IsBoundary code end → StandsAt code a op → a < end → end ≤ length code
    → ((a + width_of op < end) × IsStart code (a + width_of op)) ⊎ (a + width_of op ≡ end)
next_start code a end op s b i l m =
    let f = boundary_apart code a end op s b i l in
    elim (split_next code 0 s.starts a op (split_splits code s.starts s.split) s.here i) [
      | inl k ↦ elim (cases_eq_le (a + width_of op) end f) [ inl e ↦ inr e | inr t ↦ inl (t, record { starts = s.starts; split = s.split; here = k }) ]
      | inr k ↦ inr (omega arith)
    ]
