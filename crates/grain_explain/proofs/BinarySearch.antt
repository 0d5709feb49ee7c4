-- What a binary search finds among rows in the order of their addresses.
use Rattle.std.proofs.Common.{◌≡◌, ◌↔◌, inl, inr, ℕ, ◌<◌, ◌≤◌, List, length, get_or, slice_get, Some, None, Err, Bool, sym, ap, subst, ◌∙◌, arith}
use Rattle.std.specs.Bool.{IsTrue}
use Rattle.std.specs.List.Sorted.{IsBinarySearchResult, IsNonDecreasingBy}
use Rattle.std.specs.Ordering.{nat_cmp, ordering_index}
use Rattle.std.specs.declared.cmp.Ordering.TheVariants.{Equal}
use Rattle.std.proofs.lemmas.Bool.{cases_lt}
use Rattle.std.proofs.lemmas.Bool.Decides.{nat_tests}
use Rattle.std.proofs.lemmas.Cmp.{ranked}
use Rattle.std.proofs.lemmas.Option.{get_or_from_slice_get, same_Some, slice_get-get_or, slice_get_within}
use Rattle.grain_rules.specs.Counts.{Counts}
use Rattle.grain_explain.specs.RowView.{AreAscending, counts_of, typing_of}
use Rattle.grain_explain.specs.declared.row.LinkedBase.{LinkedBase}
use Rattle.grain_explain.specs.declared.row.Row.{Row}
use Rattle.grain_explain.proofs.Typings.{none_typed, row_typed}

index_rises : (a b at : ℕ) → a ≤ b → ordering_index (nat_cmp a at) ≤ ordering_index (nat_cmp b at)
index_rises a b at l = grind (arith, nat_tests)

module _ (rows : List Row) (up : AreAscending rows) (at : ℕ) where
  addresses_rise : (i j : ℕ) (d : Row) → i ≤ j → j < length rows → (get_or rows i d).at ≤ (get_or rows j d).at
  addresses_rise i j d le l = elim (cases_lt i j) [
    | inl lt ↦ let h = up i j (get_or rows i d) (get_or rows j d) lt (slice_get-get_or rows i d (omega arith)) (slice_get-get_or rows j d l) in omega arith
    | inr ge ↦ let e : i ≡ j = omega arith in let h = ap (λ k. (get_or rows k d).at) e in omega arith
  ]

  comparisons_rise : IsNonDecreasingBy (λ row. ordering_index (nat_cmp row.at at)) rows
  comparisons_rise i j d le l = index_rises (get_or rows i d).at (get_or rows j d).at at (addresses_rise i j d le l)

  -- the row that was found says what the typing does
  pub row_found : (bases : List LinkedBase) (place : ℕ) (row : Row) (c : Counts) (b : Bool) → slice_get rows place ≡ Some row → nat_cmp row.at at ≡ Equal → (IsTrue b ↔ (counts_of bases row ≡ c)) → IsTrue b ↔ (typing_of bases rows at ≡ Some c)
  row_found bases place row c b is same h =
      let there : row.at ≡ at = ranked row.at at _ (sym same) in
      let typed : typing_of bases rows at ≡ Some (counts_of bases row) = subst (λ n. typing_of bases rows n ≡ Some (counts_of bases row)) there (row_typed bases rows place row up is) in
      (λ t. typed ∙ ap Some (h.0 t), λ e. h.1 (same_Some (counts_of bases row) c (sym typed ∙ e)))

  -- where none is found, none has the address
  pub row_missing : (bases : List LinkedBase) (place : ℕ) → IsBinarySearchResult (λ row. nat_cmp row.at at) rows (Err place) → typing_of bases rows at ≡ None
  row_missing bases place parted = none_typed bases rows at (λ k r is same.
      let l = slice_get_within rows k r is in
      let e : (get_or rows k r).at ≡ at = ap (λ (x : Row). x.at) (get_or_from_slice_get rows k r r is) ∙ same in
      elim (cases_lt k place) [
        | inl lt ↦ let h = ranked (get_or rows k r).at at _ (sym ((parted comparisons_rise).0 k r (omega arith) lt)) in omega arith
        | inr ge ↦ let h = ranked (get_or rows k r).at at _ (sym ((parted comparisons_rise).1 k r ge l)) in omega arith
      ])
