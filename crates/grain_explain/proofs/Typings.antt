-- Rows as a typing.
use Rattle.std.proofs.Common.{◌≡◌, ◌⊎◌, inl, inr, ℕ, zero, suc, ◌<◌, List, [], ◌∷◌, ◌++◌, Bool, true, false, cond, Some, None, nat_eq, slice_get, refl, subst, arith}
use Rattle.std.specs.List.{All}
use Rattle.std.proofs.lemmas.Bool.Decides.{nat_tests}
use Rattle.std.proofs.lemmas.List.Elements.{All-head, All-tail}
use Rattle.std.proofs.lemmas.Option.{none-some, same_Some}
use Rattle.grain_rules.specs.Counts.{Counts}
use Rattle.grain_explain.specs.RowView.{AreAscending, counts_of, typing_of}
use Rattle.grain_explain.specs.declared.row.LinkedBase.{LinkedBase}
use Rattle.grain_explain.specs.declared.row.Row.{Row}

-- a row at an address
pub record RowAt (bases : List LinkedBase) (rows : List Row) (at : ℕ) (c : Counts) : Type 0 where
  pub place : ℕ
  pub row : Row
  pub is : slice_get rows place ≡ Some row
  pub at_is : row.at ≡ at
  pub counts : counts_of bases row ≡ c

behind : (bases : List LinkedBase) (r : Row) (rs : List Row) (at : ℕ) (c : Counts) → RowAt bases rs at c → RowAt bases (r ∷ rs) at c
behind bases r rs at c h = record { place = suc h.place; row = h.row; is = h.is; at_is = h.at_is; counts = h.counts }

same_place : (a b : ℕ) → nat_eq a b ≡ true → b ≡ a
same_place a b e = grind (arith, nat_tests)

other_place : (a b : ℕ) → b < a → nat_eq a b ≡ false
other_place a b l = grind (arith, nat_tests)

unlike_place : (a b : ℕ) → (b ≡ a → ⊥) → nat_eq a b ≡ false
unlike_place a b ne = grind (arith, nat_tests)

here_place : (a : ℕ) → nat_eq a a ≡ true
here_place a = grind (arith, nat_tests)

-- what the typing says comes from a row
pub typed_by : (bases : List LinkedBase) (rows : List Row) (at : ℕ) (c : Counts) → typing_of bases rows at ≡ Some c → RowAt bases rows at c
typed_by bases [] at c e = absurd (none-some c e)
typed_by bases (r ∷ rs) at c e = by (nat_eq at r.at) refl e (typed_by bases rs at c)
  where
    by : (b : Bool) → nat_eq at r.at ≡ b → cond b (Some (counts_of bases r)) (typing_of bases rs at) ≡ Some c → (typing_of bases rs at ≡ Some c → RowAt bases rs at c) → RowAt bases (r ∷ rs) at c
    by true test e more = record { place = 0; row = r; is = refl; at_is = same_place at r.at test; counts = same_Some (counts_of bases r) c e }
    by false test e more = behind bases r rs at c (more e)

pub tail_ascending : (r : Row) (rs : List Row) → AreAscending (r ∷ rs) → AreAscending rs
tail_ascending r rs up i j a b l ea eb = up (suc i) (suc j) a b (omega arith) ea eb

-- of rows in order, each is what the typing says of its address
pub row_typed : (bases : List LinkedBase) (rows : List Row) (k : ℕ) (r : Row) → AreAscending rows → slice_get rows k ≡ Some r → typing_of bases rows r.at ≡ Some (counts_of bases r)
row_typed bases [] k r up e = absurd (none-some r e)
row_typed bases (h ∷ hs) zero r up e =
    let same : h ≡ r = same_Some h r e in
    subst (λ (x : Row). cond (nat_eq x.at h.at) (Some (counts_of bases h)) (typing_of bases hs x.at) ≡ Some (counts_of bases x)) same (rw (here_place h.at) refl)
row_typed bases (h ∷ hs) (suc k) r up e =
    let below : h.at < r.at = up 0 (suc k) h r (omega arith) refl e in
    rw (other_place r.at h.at below) (row_typed bases hs k r (tail_ascending h hs up) e)

above_first : (h : Row) (hs : List Row) (r b : Row) (j : ℕ) → AreAscending (h ∷ hs) → h.at < r.at → slice_get (hs ++ r ∷ []) j ≡ Some b → h.at < b.at
above_first h hs r b j up low e = elim (slice_get_push hs r b j e) [
  | inl old ↦ up 0 (suc j) h b (omega arith) refl old
  | inr same ↦ subst (λ (x : Row). h.at < x.at) same low
]
  where
    slice_get_push : (rows : List Row) (r b : Row) (j : ℕ) → slice_get (rows ++ r ∷ []) j ≡ Some b → (slice_get rows j ≡ Some b) ⊎ (r ≡ b)
    slice_get_push [] r b zero e = inr (same_Some r b e)
    slice_get_push [] r b (suc j) e = absurd (none-some b e)
    slice_get_push (h ∷ hs) r b zero e = inl e
    slice_get_push (h ∷ hs) r b (suc j) e = slice_get_push hs r b j e

-- a row above all others may come last
pub ascending_push : (rows : List Row) (r : Row) → AreAscending rows → All (λ (x : Row). x.at < r.at) rows → AreAscending (rows ++ r ∷ [])
ascending_push [] r up below i zero a b l ea eb = absurd (omega arith)
ascending_push [] r up below i (suc j) a b l ea eb = absurd (none-some b eb)
ascending_push (h ∷ hs) r up below i zero a b l ea eb = absurd (omega arith)
ascending_push (h ∷ hs) r up below zero (suc j) a b l ea eb =
    subst (λ (x : Row). x.at < b.at) (same_Some h a ea) (above_first h hs r b j up (All-head (λ (x : Row). x.at < r.at) h hs below) eb)
ascending_push (h ∷ hs) r up below (suc i) (suc j) a b l ea eb =
    ascending_push hs r (tail_ascending h hs up) (All-tail (λ (x : Row). x.at < r.at) h hs below) i j a b (omega arith) ea eb

-- an address that no row has
pub none_typed : (bases : List LinkedBase) (rows : List Row) (at : ℕ) → ((k : ℕ) (r : Row) → slice_get rows k ≡ Some r → r.at ≡ at → ⊥) → typing_of bases rows at ≡ None
none_typed bases [] at ne = refl
none_typed bases (h ∷ hs) at ne = rw (unlike_place at h.at (ne 0 h refl)) (none_typed bases hs at (λ k r e. ne (suc k) r e))
