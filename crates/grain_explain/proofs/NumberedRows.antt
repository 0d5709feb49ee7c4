-- Rows by their numbers.
use Rattle.std.proofs.Common.{◌≡◌, ℕ, ◌+◌, ◌-◌, ◌<◌, inl, inr, List, Some, length, get_or, slice_get, refl, sym, ap, subst, ◌∙◌, arith}
use Rattle.std.proofs.lemmas.Bool.{cases_lt}
use Rattle.std.proofs.lemmas.Option.{same_Some, slice_get-get_or, slice_get_read, slice_get_within}
use Rattle.grain_explain.specs.declared.row.Row.{Row}

-- the row at a number, as it is read
abbrev pub row_of : List Row → ℕ → Row
row_of rows i = get_or rows i (record { at = 0; operands = 0; iterators = 0; bases = 0 })

pub row_there : (rows : List Row) (i : ℕ) → i < length rows → slice_get rows i ≡ Some (row_of rows i)
row_there rows i l = slice_get-get_or rows i _ l

pub row_read : (rows : List Row) (i : ℕ) (r : Row) → i < length rows → r ≡ get_or rows i r → slice_get rows i ≡ Some r
row_read rows i r l e = slice_get_read rows (length rows) i r refl l e

-- the rows below a number are in the order of their addresses
abbrev pub AscendBelow : List Row → ℕ → Type 0
AscendBelow rows n = (i j : ℕ) (a b : Row) → i < j → j < n → slice_get rows i ≡ Some a → slice_get rows j ≡ Some b → a.at < b.at

pub ascend_more : (rows : List Row) (n : ℕ) (before here : Row) → slice_get rows (n - 1) ≡ Some before → slice_get rows n ≡ Some here → 0 < n → before.at < here.at → AscendBelow rows n → AscendBelow rows (n + 1)
ascend_more rows n before here eb eh pos lt up i j a b l m ea ej =
    elim (cases_lt j n) [
      | inl k ↦ up i j a b l k ea ej
      | inr k ↦
          let last : j ≡ n = omega arith in
          let same : here ≡ b = same_Some here b (sym eh ∙ (ap (slice_get rows) (sym last) ∙ ej)) in
          let right : here.at ≡ b.at = ap (λ (r : Row). r.at) same in
          elim (cases_lt i (n - 1)) [
            | inl p ↦ let h = up i (n - 1) a before p (omega arith) ea eb in omega arith
            | inr p ↦
                let there : i ≡ n - 1 = omega arith in
                let left : before.at ≡ a.at = ap (λ (r : Row). r.at) (same_Some before a (sym eb ∙ (ap (slice_get rows) (sym there) ∙ ea))) in
                omega arith
          ]
    ]

-- what holds of each row below a number, and of the row of that number
pub rows_more : (P : Row → Type 0) (rows : List Row) (n : ℕ) (here : Row) → slice_get rows n ≡ Some here → P here
    → ((k : ℕ) (r : Row) → k < n → slice_get rows k ≡ Some r → P r) → (k : ℕ) (r : Row) → k < n + 1 → slice_get rows k ≡ Some r → P r
rows_more P rows n here eh p below k r l e =
    elim (cases_lt k n) [
      | inl m ↦ below k r m e
      | inr m ↦ let last : k ≡ n = omega arith in subst P (same_Some here r (sym eh ∙ (ap (slice_get rows) (sym last) ∙ e))) p
    ]

pub row_inside : (rows : List Row) (k : ℕ) (r : Row) → slice_get rows k ≡ Some r → k < length rows
row_inside rows k r e = slice_get_within rows k r e
