-- How many entries an address table has in front of its first damage.
use Rattle.std.proofs.Common.{◌≡◌, ℕ, suc, ◌+◌, ◌^◌, ◌<◌, ⊎_elim, List, [], ◌∷◌, ◌++◌, length, sym, ap, ◌∙◌, arith, append_assoc}
use Rattle.std.proofs.lemmas.List.{length-append}
use Rattle.grain_base.specs.AddressTable.{Entry, Holds}
use Rattle.grain_base.proofs.Entries.{front, front_is}

-- their number fits u32, as the count does that stands before them
pub front_small : (table : List ℕ) → length (front table) < 2 ^ 32
front_small table = ⊎_elim
    (λ (none : front table ≡ []). let long : length (front table) ≡ 0 = ap (λ (list : List Entry). length list) none in omega arith)
    (λ (holds : Holds table (front table)). omega (arith, holds.enough, holds.counted.3.1))
    (front_is table).held

-- where one is left, those before it are fewer
pub one_left : (table : List ℕ) (done rest : List Entry) (entry : Entry) → front table ≡ done ++ entry ∷ rest → length done + 1 < 2 ^ 33
one_left table done rest entry all =
    let long : length (front table) ≡ length done + suc (length rest) = ap (λ (list : List Entry). length list) all ∙ length-append done (entry ∷ rest) in
    omega (arith, front_small table)

-- those that were given, with one more
pub given_more : (list done left rest : List Entry) (entry : Entry) → list ≡ done ++ left → left ≡ entry ∷ rest → list ≡ (done ++ entry ∷ []) ++ rest
given_more list done left rest entry all more = all ∙ ap (λ (xs : List Entry). done ++ xs) more ∙ sym (append_assoc done (entry ∷ []) rest)
