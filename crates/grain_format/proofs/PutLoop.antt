-- Appending fields one after another, as a loop does.
use Rattle.std.proofs.Common.{◌≡◌, ◌<◌, ◌+◌, ℕ, suc, List, ◌∷◌, ◌++◌, length, get_or, drop, map, Option, None, refl, sym, ap, ◌∙◌, append_assoc, drop-cons, add-one}
use Rattle.std.specs.List.{flat_map, AllByRecursion}
use Rattle.grain_format.specs.declared.error.Unkept.{Unkept}
use Rattle.grain_format.specs.Refusals.{counted_refusal}

-- what is left begins with the item that is appended now
pub left_is : {A V : Type 0} (view : A → V) (xs : List A) (i : ℕ) (x : A) → i < length xs → x ≡ get_or xs i x → map view (drop i xs) ≡ view x ∷ map view (drop (i + 1) xs)
left_is view xs i x lt is = rw (add-one, drop-cons xs i x) (ap (λ (y : _). view y ∷ map view (drop (suc i) xs)) (sym is))

-- behind it less is left
module _ {V : Type 0} {left rest : List V} {v : V} (is : left ≡ v ∷ rest) where
  pub spelled_more : (spelling : V → List ℕ) (out total : List ℕ) → out ++ flat_map spelling left ≡ total → (out ++ spelling v) ++ flat_map spelling rest ≡ total
  spelled_more spelling out total so_far = append_assoc out (spelling v) (flat_map spelling rest) ∙ ap (λ (ys : List V). out ++ flat_map spelling ys) (sym is) ∙ so_far

  pub fits_more : {Total : Type 0} (Fits : V → Type 0) → (AllByRecursion Fits left → Total) → Fits v → AllByRecursion Fits rest → Total
  fits_more Fits so_far fits others = so_far (rw is (fits, others))

  pub decided_more : (refusal : V → Option Unkept) (total : Option Unkept) → total ≡ counted_refusal refusal left → refusal v ≡ None → total ≡ counted_refusal refusal rest
  decided_more refusal total so_far kept = so_far ∙ ap (counted_refusal refusal) is ∙ rw kept refl
