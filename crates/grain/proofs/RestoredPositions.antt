-- A table and code give one list of places.
use Rattle.std.proofs.Common.{◌≡◌, ℕ, Bool, true, false, cond, List, [], ◌∷◌, map, get_or, nat_le, ◌<◌, Option, Some, None, refl, sym, ap, ◌∙◌, inl, inr}
use Rattle.std.specs.List.{list_all, list_any, range_with_len}
use Rattle.std.specs.Prelude.{is_none, length, option_and_then, ◌==◌}
use Rattle.grain_base.specs.AddressTable.{Entry, site_at}
use Rattle.std.proofs.lemmas.List.{get_or-map}
use Rattle.grain_base.specs.Place.{place_of}
use Rattle.grain_base.specs.declared.position.Position.{Position}
use Rattle.grain_bytecode.specs.Positions.{IsRead, Place, byte_place, code_site, dense, site_place, table_places}
use Rattle.grain_bytecode.proofs.ReadAddresses.{one_arrival}
use Rattle.grain.proofs.AttachedPositions.{one_table}

-- without entries no address has a site
no_site : (at : ℕ) → code_site [] at ≡ None
no_site at = either (nat_le at 4294967295)
  where
    either : (small : Bool) → cond small (site_at [] at) None ≡ None
    either true = refl
    either false = refl

no_place : (arrived : List ℕ) (at : ℕ) → byte_place [] arrived at ≡ None
no_place arrived at = either (list_any (λ there. there == at) arrived)
  where
    either : (met : Bool) → cond met (option_and_then site_place (code_site [] at)) None ≡ None
    either true = ap (option_and_then site_place) (no_site at)
    either false = refl

no_places : (arrived ats : List ℕ) → list_all is_none (map (byte_place [] arrived) ats) ≡ true
no_places arrived [] = refl
no_places arrived (at ∷ ats) =
    let here : is_none (byte_place [] arrived at) ≡ true = ap (λ (p : Place). is_none p) (no_place arrived at) in
    let others = no_places arrived ats in
    simp here others

stripped_again : (arrived code : List ℕ) → dense (table_places [] arrived code) ≡ None
stripped_again arrived code = ap (λ (all : Bool). cond all None (Some (table_places [] arrived code))) (no_places arrived (range_with_len 0 (length code)))

pub one_read : (table code : List ℕ) (a b : Option (List Place)) → IsRead table code a → IsRead table code b → a ≡ b
one_read table code a b first second =
    let same = one_table table first.list second.list first.is second.is in
    elim first.whole as (λ _. a ≡ b) [
      | inl none ↦ elim second.whole as (λ _. a ≡ b) [
        | inl other ↦ none.1 ∙ sym other.1
        | inr all ↦ none.1 ∙ sym (all.3 ∙ ap (λ (list : List Entry). dense (table_places list all.0 code)) (sym same ∙ none.0) ∙ stripped_again all.0 code)
      ]
      | inr all ↦ elim second.whole as (λ _. a ≡ b) [
        | inl none ↦ all.3 ∙ ap (λ (list : List Entry). dense (table_places list all.0 code)) (same ∙ none.0) ∙ stripped_again all.0 code ∙ sym none.1
        | inr other ↦
            let arrived = one_arrival code all.0 other.0 all.1 other.1 in
            all.3 ∙ (λ i. dense (table_places (same i) (arrived i) code)) ∙ sym other.3
      ]
    ]

-- positions whose places are the same are so one by one
pub placed_alike : (a b : List Position) (i : ℕ) (d e : Position) → i < length a → i < length b → map place_of a ≡ map place_of b → place_of (get_or a i d) ≡ place_of (get_or b i e)
placed_alike a b i d e l m same =
    sym (get_or-map place_of a i d (place_of d) l) ∙ ap (λ (ps : List Place). get_or ps i (place_of d)) same ∙ get_or-map place_of b i e (place_of d) m
