-- Writing a table entry by entry.
use Rattle.std.proofs.Common.{◌≡◌, ◌≢◌, ℕ, ◌+◌, ◌-◌, ◌^◌, ◌<◌, ◌≤◌, List, [], ◌∷◌, ◌++◌, length, drop, get_or, refl, sym, ap, subst, arith, append_assoc}
use Rattle.std.specs.List.{AllByRecursion}
use Rattle.std.proofs.lemmas.List.{append-nil, drop_all}
use Rattle.std.specs.List.Sorted.{IsStrictlyIncreasing}
use Rattle.grain_base.specs.Varint.{AppendsShortest, AreShortest}
use Rattle.grain_base.specs.AddressTable.{Entry, addresses, AreEntries, Table, entries_with_site, numbers_from}
use Rattle.grain_base.proofs.IncreasingLists.{RisesFrom, rises_from}
use Rattle.grain_base.proofs.KnownSites.{kept_without, kept_with}

-- the entry's numbers are u32
abbrev pub Fits : Entry → Type 0
Fits entry = (entry.0 < 2 ^ 32) × (entry.1.line < 2 ^ 32) × (entry.1.column < 2 ^ 32)

-- From here on entries are to be written, the first address counted from one that is no greater.
abbrev Left : ℕ → List Entry → Type 0
Left before left = (least : ℕ) × (before ≤ least) × RisesFrom least (addresses left)

-- What is written is completed to the table by the entries that are left.
pub record Encoded (sites : List Entry) (index before : ℕ) (items : List ℕ) : Type 0 where
  pub written : (tail : List ℕ) → AreShortest tail (numbers_from before (entries_with_site (drop index sites))) → AreShortest (items ++ tail) (length (entries_with_site sites) ∷ numbers_from 0 (entries_with_site sites))
  pub rising : Left before (entries_with_site (drop index sites))
  pub fitting : AllByRecursion Fits (entries_with_site (drop index sites)) → AllByRecursion Fits (entries_with_site sites)

pub encoded_none : (sites : List Entry) (items : List ℕ) → IsStrictlyIncreasing (addresses (entries_with_site sites)) → AppendsShortest [] items (length (entries_with_site sites)) → Encoded sites 0 0 items
encoded_none sites items ascending counted = record {
  written = λ tail more. (counted.0, tail, ap (λ (xs : List ℕ). xs ++ tail) counted.1, counted.2, more);
  rising = (0, omega arith, rises_from (addresses (entries_with_site sites)) ascending);
  fitting = λ fits. fits;
}

pub encoded_without : (sites : List Entry) (index before : ℕ) (items : List ℕ) (d : Entry) → Encoded sites index before items → index < length sites
    → (get_or sites index d).1.line ≡ 0 → Encoded sites (index + 1) before items
encoded_without sites index before items d e within none =
    let same = kept_without sites index d within none in
    record {
      written = λ tail more. e.written tail (subst (λ (list : List Entry). AreShortest tail (numbers_from before list)) (sym same) more);
      rising = subst (Left before) same e.rising;
      fitting = λ fits. e.fitting (subst (AllByRecursion Fits) (sym same) fits);
    }

-- the entry that is next is no lower
pub not_below : (sites : List Entry) (index before : ℕ) (items : List ℕ) (d : Entry) → Encoded sites index before items → index < length sites → (get_or sites index d).1.line ≢ 0 → before ≤ (get_or sites index d).0
not_below sites index before items d e within some =
    let left = subst (Left before) (kept_with sites index d within some) e.rising in
    omega (arith, left.1, left.2.0)

pub encoded_with : (sites : List Entry) (index before : ℕ) (items a b c : List ℕ) (d : Entry) → Encoded sites index before items → index < length sites → (get_or sites index d).1.line ≢ 0 → Fits (get_or sites index d)
    → AppendsShortest items a ((get_or sites index d).0 - before) → AppendsShortest a b (get_or sites index d).1.line → AppendsShortest b c (get_or sites index d).1.column
    → Encoded sites (index + 1) (get_or sites index d).0 c
encoded_with sites index before items a b c d e within some fit delta line column =
    let entry = get_or sites index d in
    let same = kept_with sites index d within some in
    let left = subst (Left before) same e.rising in
    let joined : (tail : List ℕ) → c ++ tail ≡ items ++ (delta.0 ++ (line.0 ++ (column.0 ++ tail))) = λ tail. rw (column.1, line.1, delta.1) (simp append_assoc) in
    record {
      written = λ tail more. subst (λ (xs : List ℕ). AreShortest xs (length (entries_with_site sites) ∷ numbers_from 0 (entries_with_site sites))) (sym (joined tail))
          (e.written (delta.0 ++ (line.0 ++ (column.0 ++ tail))) (subst (λ (list : List Entry). AreShortest (delta.0 ++ (line.0 ++ (column.0 ++ tail))) (numbers_from before list)) (sym same)
          (delta.0, line.0 ++ (column.0 ++ tail), refl, delta.2, (line.0, column.0 ++ tail, refl, line.2, (column.0, tail, refl, column.2, more)))));
      rising = (entry.0 + 1, omega arith, left.2.1);
      fitting = λ fits. e.fitting (subst (AllByRecursion Fits) (sym same) (fit, fits));
    }

-- shortest spellings of entries are spellings of entries
shortest_entries : (before least : ℕ) (bytes : List ℕ) (list : List Entry) → before ≤ least → RisesFrom least (addresses list) → AllByRecursion Fits list
    → AreShortest bytes (numbers_from before list) → AreEntries before bytes list []
shortest_entries before least bytes [] above rises fits spelled = spelled
shortest_entries before least bytes (entry ∷ list) above rises fits spelled =
    let fit = fits.0 in
    let line = spelled.4 in
    let column = line.4 in (
      column.1,
      record {
        delta = entry.0 - before;
        spelled = (spelled.0, spelled.1, spelled.2, (spelled.3.spelled, omega (arith, fit.0)), (line.0, line.1, line.2, (line.3.spelled, fit.1), (column.0, column.1, column.2, (column.3.spelled, fit.2), refl)));
        address = omega (arith, rises.0);
        fits = fit.0;
      },
      shortest_entries entry.0 (entry.0 + 1) column.1 list (omega arith) rises.1 fits.1 column.4,
    )

pub shortest_table : (bytes : List ℕ) (list : List Entry) → IsStrictlyIncreasing (addresses list) → AllByRecursion Fits list → length list < 2 ^ 32
    → AreShortest bytes (length list ∷ numbers_from 0 list) → Table bytes list
shortest_table bytes list ascending fits few spelled = record {
  after = spelled.1;
  counted = (spelled.0, spelled.1, spelled.2, (spelled.3.spelled, few), refl);
  entries = shortest_entries 0 0 spelled.1 list (omega arith) (rises_from (addresses list) ascending) fits spelled.4;
  ascending = ascending;
}

pub encoded_end : (sites : List Entry) (index before : ℕ) (items : List ℕ) → Encoded sites index before items → length sites ≤ index
    → AreShortest items (length (entries_with_site sites) ∷ numbers_from 0 (entries_with_site sites)) × AllByRecursion Fits (entries_with_site sites)
encoded_end sites index before items e over =
    let none : entries_with_site (drop index sites) ≡ [] = ap entries_with_site (drop_all index sites over) in (
      subst (λ (xs : List ℕ). AreShortest xs (length (entries_with_site sites) ∷ numbers_from 0 (entries_with_site sites))) (append-nil items)
          (e.written [] (subst (λ (list : List Entry). AreShortest [] (numbers_from before list)) (sym none) refl)),
      e.fitting (subst (AllByRecursion Fits) (sym none) tt),
    )
