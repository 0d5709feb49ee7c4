-- The entries with a known site among those that are left.
use Rattle.std.proofs.Common.{◌≡◌, ◌≢◌, ℕ, ◌+◌, ◌<◌, ◌≤◌, List, ◌∷◌, length, drop, get_or, refl, sym, ap, subst, ◌∙◌, arith, eq-eqb}
use Rattle.std.specs.List.Sorted.{IsStrictlyIncreasing}
use Rattle.std.proofs.lemmas.Bool.{ne_eqb}
use Rattle.std.proofs.lemmas.List.{drop_more, drop_all}
use Rattle.grain_base.specs.AddressTable.{Entry, addresses, entries_with_site}
use Rattle.grain_base.proofs.IncreasingLists.{RisesFrom, rises_from, rises_up}

pub kept_without : (sites : List Entry) (index : ℕ) (d : Entry) → index < length sites → (get_or sites index d).1.line ≡ 0 → entries_with_site (drop index sites) ≡ entries_with_site (drop (index + 1) sites)
kept_without sites index d within none = ap entries_with_site (drop_more sites index d within) ∙ rw (eq-eqb (get_or sites index d).1.line 0 none) refl

pub kept_with : (sites : List Entry) (index : ℕ) (d : Entry) → index < length sites → (get_or sites index d).1.line ≢ 0 → entries_with_site (drop index sites) ≡ get_or sites index d ∷ entries_with_site (drop (index + 1) sites)
kept_with sites index d within some = ap entries_with_site (drop_more sites index d within) ∙ rw (ne_eqb (get_or sites index d).1.line 0 some) refl

-- All entries ascend exactly where those that are left do, from this address on.
pub record Ascends (sites : List Entry) (index least : ℕ) : Type 0 where
  pub down : RisesFrom 0 (addresses (entries_with_site sites)) → RisesFrom least (addresses (entries_with_site (drop index sites)))
  pub up : RisesFrom least (addresses (entries_with_site (drop index sites))) → RisesFrom 0 (addresses (entries_with_site sites))

pub ascends_all : (sites : List Entry) → Ascends sites 0 0
ascends_all sites = record { down = λ rises. rises; up = λ rises. rises }

pub ascends_without : (sites : List Entry) (index least : ℕ) (d : Entry) → Ascends sites index least → index < length sites → (get_or sites index d).1.line ≡ 0 → Ascends sites (index + 1) least
ascends_without sites index least d a within none =
    let same = kept_without sites index d within none in
    record { down = λ rises. subst (λ (list : List Entry). RisesFrom least (addresses list)) same (a.down rises); up = λ rises. a.up (subst (λ (list : List Entry). RisesFrom least (addresses list)) (sym same) rises) }

pub ascends_with : (sites : List Entry) (index least : ℕ) (d : Entry) → Ascends sites index least → index < length sites → (get_or sites index d).1.line ≢ 0
    → least ≤ (get_or sites index d).0 → Ascends sites (index + 1) ((get_or sites index d).0 + 1)
ascends_with sites index least d a within some above =
    let same = kept_with sites index d within some in
    record {
      down = λ rises. (subst (λ (list : List Entry). RisesFrom least (addresses list)) same (a.down rises)).1;
      up = λ rises. a.up
          (subst (λ (list : List Entry). RisesFrom least (addresses list)) (sym same) (above, rises));
    }

pub ascends_end : (sites : List Entry) (index least : ℕ) → Ascends sites index least → length sites ≤ index → IsStrictlyIncreasing (addresses (entries_with_site sites))
ascends_end sites index least a over = rises_up 0 (addresses (entries_with_site sites)) (a.up (subst (λ (list : List Entry). RisesFrom least (addresses (entries_with_site list))) (sym (drop_all index sites over)) tt))

pub falls : (sites : List Entry) (index least : ℕ) (d : Entry) → Ascends sites index least → index < length sites → (get_or sites index d).1.line ≢ 0
    → (get_or sites index d).0 < least → IsStrictlyIncreasing (addresses (entries_with_site sites)) → ⊥
falls sites index least d a within some below rises =
    let left = subst (λ (list : List Entry). RisesFrom least (addresses list)) (kept_with sites index d within some) (a.down (rises_from (addresses (entries_with_site sites)) rises)) in
    absurd (omega (arith, left.0))
