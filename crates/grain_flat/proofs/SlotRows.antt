-- The slots that rows of chains say are those at which the chains begin.
use Rattle.std.proofs.Common.{◌≡◌, ℕ, List, [], ◌∷◌, length, map, min, take, refl, ap, sym, ◌∙◌, arith, inl, inr}
use Rattle.std.proofs.lemmas.Bool.{cases_lt}
use Rattle.std.proofs.lemmas.List.{take_all}
use Rattle.grain_pools.specs.declared.chain.Chain.{Chain}
use Rattle.grain_pools.specs.declared.chain.Root.{Root}
use Rattle.grain_pools.specs.declared.chain.Root.TheVariants as roots
use Rattle.grain_needs.specs.Slots.{root_slot, root_slots}
use Rattle.grain_flat.specs.Flat.{AreChains, chain_row}
use Rattle.grain_flat.specs.Slots.{row_slot}
use Rattle.grain_flat.specs.declared.records.CChain.{CChain}
use Rattle.grain_flat.specs.declared.records.CStep.{CStep}
use Rattle.grain_flat.proofs.ChainRows.{with_root}

root_by_row : (r : Root) (row : CChain) → row_slot (with_root r row) ≡ root_slot r
root_by_row (roots.Local slot n) row = refl
root_by_row (roots.Named n pos) row = refl
root_by_row (roots.This pos) row = refl
root_by_row roots.Temporary row = refl

slots_by_rows : (chains : List Chain) → map row_slot (map chain_row chains) ≡ root_slots chains
slots_by_rows [] = refl
slots_by_rows (c ∷ chains) = λ i. root_by_row c.root (chain_row c) i ∷ slots_by_rows chains i

pub row_slots : (rows : List CChain) (steps : List CStep) (chains : List Chain) → AreChains rows steps chains → map row_slot rows ≡ root_slots chains
row_slots rows steps chains are = ap (map row_slot) are.rows_are ∙ slots_by_rows chains

-- as many as there are, or as there is room for
pub take_few : {X : Type 0} (xs : List X) (n k : ℕ) → k ≡ min (length xs) n → take k xs ≡ take n xs
take_few xs n k few = elim (cases_lt n (length xs)) [
  | inl less ↦ ap (λ m. take m xs) (let e : k ≡ n = omega arith in e)
  | inr more ↦ take_all k xs (omega arith) ∙ sym (take_all n xs more)
]
