-- Two contents are the same exactly where they are equal, and so what a hash is fed agrees with that.
use Rattle.std.proofs.Common.{◌≡◌, Bool, ◌&&◌, ◌==◌, refl, ap}
use Rattle.std.proofs.lemmas.Bool.Decides.{Decides-and}
use Rattle.std.proofs.lemmas.Slice.Eq.{bytes_eq-Decides}
use Rattle.std.specs.Bool.{Decides}
use Rattle.std.specs.Cmp.{IsEquivalence, decided, booleans_Decides, signed_Decides, unsigned_Decides}
use Rattle.std.specs.Hash.{Alike, same_Alike}
use Rattle.std.specs.Ordering.{int_eq}
use Rattle.std.specs.Str.{bytes_eq}
use Rattle.grain_base.specs.Content.{Content, unit, boolean, integer, character, text, range, range_inclusive, array, blob, object_map}
use Rattle.grain_base.specs.Content.{fn_ptr, host, float, Items, no_items, item, Entries, no_entries, entry, same, same_items, same_entries, hash_writes}

-- what is decided in other words
reworded : {P Q : Type 0} (r : Bool) → Decides r P → (P → Q) → (Q → P) → Decides r Q
reworded r d there back = (λ h. there (d.0 h), λ q. d.1 (back q))

mutual
  pub same_Decides : (x y : Content) → Decides (same x y) (x ≡ y)
  same_Decides unit unit = (λ h. refl, λ e. refl)
  same_Decides (boolean b) (boolean c) = reworded _ (booleans_Decides b c) (λ e. ap boolean e) (λ e. cc)
  same_Decides (integer z) (integer w) = reworded _ (signed_Decides z w) (λ e. ap integer e) (λ e. cc)
  same_Decides (character n) (character m) = reworded _ (unsigned_Decides n m) (λ e. ap character e) (λ e. cc)
  same_Decides (text xs) (text ys) = reworded _ (bytes_eq-Decides xs ys) (λ e. ap text e) (λ e. cc)
  same_Decides (range a b) (range c d) =
      reworded _ (Decides-and (int_eq a c) (int_eq b d) (signed_Decides a c) (signed_Decides b d)) (λ e. cc) (λ e. (cc, cc))
  same_Decides (range_inclusive a b) (range_inclusive c d) =
      reworded _ (Decides-and (int_eq a c) (int_eq b d) (signed_Decides a c) (signed_Decides b d)) (λ e. cc) (λ e. (cc, cc))
  same_Decides (array xs) (array ys) = reworded _ (same_items_Decides xs ys) (λ e. ap array e) (λ e. cc)
  same_Decides (blob xs) (blob ys) = reworded _ (bytes_eq-Decides xs ys) (λ e. ap blob e) (λ e. cc)
  same_Decides (object_map es) (object_map fs) = reworded _ (same_entries_Decides es fs) (λ e. ap object_map e) (λ e. cc)
  same_Decides (fn_ptr n xs) (fn_ptr m ys) =
      reworded _ (Decides-and (bytes_eq n m) (same_items xs ys) (bytes_eq-Decides n m) (same_items_Decides xs ys)) (λ e. cc) (λ e. (cc, cc))
  same_Decides (host t i) (host u j) =
      reworded _ (Decides-and (bytes_eq t u) (i == j) (bytes_eq-Decides t u) (unsigned_Decides i j)) (λ e. cc) (λ e. (cc, cc))
  same_Decides (float n) (float m) = reworded _ (unsigned_Decides n m) (λ e. ap float e) (λ e. cc)
  same_Decides _ _ = (λ h. absurd (cc), λ e. cc)

  pub same_items_Decides : (xs ys : Items) → Decides (same_items xs ys) (xs ≡ ys)
  same_items_Decides no_items no_items = (λ h. refl, λ e. refl)
  same_items_Decides (item x xs) (item y ys) =
      reworded _ (Decides-and (same x y) (same_items xs ys) (same_Decides x y) (same_items_Decides xs ys)) (λ e. cc) (λ e. (cc, cc))
  same_items_Decides _ _ = (λ h. absurd (cc), λ e. cc)

  pub same_entries_Decides : (es fs : Entries) → Decides (same_entries es fs) (es ≡ fs)
  same_entries_Decides no_entries no_entries = (λ h. refl, λ e. refl)
  same_entries_Decides (entry k x es) (entry l y fs) =
      reworded _ (Decides-and (bytes_eq k l && same x y) (same_entries es fs) (Decides-and (bytes_eq k l) (same x y) (bytes_eq-Decides k l) (same_Decides x y)) (same_entries_Decides es fs))
      (λ e. cc) (λ e. ((cc, cc), cc))
  same_entries_Decides _ _ = (λ h. absurd (cc), λ e. cc)

pub same_equivalence : IsEquivalence same
same_equivalence = decided same same_Decides

pub hash_writes_Alike : Alike same hash_writes
hash_writes_Alike = same_Alike hash_writes same_Decides
