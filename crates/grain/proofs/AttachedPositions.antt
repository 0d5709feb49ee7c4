-- Reading positions back.
use Rattle.std.proofs.Common.{◌≡◌, ℕ, ◌+◌, inl, inr, zero, suc, Bool, true, false, cond, List, [], ◌∷◌, length, map, min, Vec, Option, None, Err, is_some, option_map, nat_le, refl, sym, ap, subst, ◌∙◌, arith}
use Rattle.std.specs.List.{All, fold}
use Rattle.std.proofs.lemmas.Bool.{false≢true}
use Rattle.grain_base.specs.AddressTable.{Entry, FirstFlaw, Table, site_at}
use Rattle.grain_base.specs.Place.{place_of}
use Rattle.grain_base.specs.declared.pos.Error.{Error}
use Rattle.grain_base.specs.declared.position.Position.{Position}
use Rattle.grain_base.proofs.Entries.{front_once, table_front}
use Rattle.grain_base.proofs.Verdict.{says_ok}
use Rattle.grain_bytecode.specs.Positions.{IsRead, IsRefusal, Place, code_site, matched, places}
use Rattle.grain_bytecode.specs.declared.positions.Positions.{Positions}
use Rattle.grain_bytecode.specs.declared.positions.Positions.TheVariants.{Stripped, Dense}
use Rattle.grain_bytecode.specs.declared.positions.TableError.{TableError}
use Rattle.grain_bytecode.specs.declared.positions.TableError.TheVariants as table_error
use Rattle.grain_bytecode.proofs.ReadAddresses.{one_arrival}
use Rattle.grain.specs.Program.{Program, listed_positions}
use Rattle.grain.specs.Sidecars.{ReadsPlaces}
use Rattle.grain.specs.Slots.{drawn}
use Rattle.grain.specs.declared.sidecar.Sidecar.{Sidecar}
use Rattle.grain.proofs.SlotPositions.{drawn_none}

pub places_listed : (positions : Positions) → places positions ≡ option_map (λ ps. map place_of ps) (listed_positions positions)
places_listed Stripped = refl
places_listed (Dense positions) = refl

-- the places of positions that were drawn from no slots
pub none_placed : (positions : List Position) (n : ℕ) → map place_of positions ≡ drawn n [] → All (λ p. place_of p ≡ None) positions
none_placed positions n e = each_none positions (subst (All (λ (p : Place). p ≡ None)) (sym e) (drawn_none n))
  where
    each_none : (ps : List Position) → All (λ (p : Place). p ≡ None) (map place_of ps) → All (λ p. place_of p ≡ None) ps
    each_none [] all k d l = absurd (omega arith)
    each_none (p ∷ ps) all zero d l = all 0 None (omega arith)
    each_none (p ∷ ps) all (suc k) d l = each_none ps (λ j x m. all (suc j) x (omega arith)) k d (omega arith)

-- a table has no flaw
flawless : (bytes : List ℕ) (list : List Entry) (error : Error) → Table bytes list → FirstFlaw bytes error → ⊥
flawless bytes list error table flaw = false≢true ((says_ok bytes (Err error) flaw).1 (list, table))

pub one_table : (bytes : List ℕ) (a b : List Entry) → Table bytes a → Table bytes b → a ≡ b
one_table bytes a b first second = front_once bytes a b (table_front bytes a first) (table_front bytes b second)

-- a table of no entries has a site for no address
none_there : (at : ℕ) → is_some (code_site [] at) ≡ false
none_there at = either (nat_le at 4294967295)
  where
    either : (small : Bool) → is_some (cond small (site_at [] at) None) ≡ false
    either true = refl
    either false = refl

none_from : (arrived : List ℕ) (n : ℕ) → fold (λ a at. a + cond (is_some (code_site [] at)) 1 0) n arrived ≡ n
none_from [] n = refl
none_from (at ∷ arrived) n =
    ap (λ (met : Bool). fold (λ a there. a + cond (is_some (code_site [] there)) 1 0) (n + cond met 1 0) arrived) (none_there at)
    ∙ ap (λ k. fold (λ a there. a + cond (is_some (code_site [] there)) 1 0) k arrived) (let h : n + 0 ≡ n = omega arith in h)
    ∙ none_from arrived n

pub none_matched : (arrived : List ℕ) → matched [] arrived ≡ 0
none_matched arrived = none_from arrived 0

-- what is read is refused for a lack of memory alone
pub only_memory : (table code : List ℕ) (found : Option (List Place)) (error : TableError) → IsRead table code found → IsRefusal table code error → error ≡ table_error.OutOfMemory
only_memory table code found (table_error.Malformed error) read flaw = absurd (flawless table read.list error read.is flaw)
only_memory table code found (table_error.PastTheEnd entries some instructions) read (exceeds, long) =
    let same = one_table table exceeds.list read.list exceeds.is read.is in
    absurd (elim read.whole as (λ _. ⊥) [
      | inl none ↦ exceeds.differ (
          exceeds.found ∙ ap (λ (list : List Entry). matched list exceeds.arrived) (same ∙ none.0) ∙ none_matched exceeds.arrived
          ∙ sym (exceeds.counted ∙ ap (λ (list : List Entry). length list) (same ∙ none.0)))
      | inr all ↦ exceeds.differ (
          exceeds.found ∙ (λ i. matched (same i) (one_arrival code exceeds.arrived all.0 exceeds.reads all.1 i)) ∙ all.2
          ∙ sym (exceeds.counted ∙ ap (λ (list : List Entry). length list) same))
    ])
only_memory table code found table_error.OutOfMemory read refusal = refl
only_memory table code found (table_error.WrongProgram expected other) read refusal = absurd refusal
only_memory table code found (table_error.ChainStream error) read refusal = absurd refusal
only_memory table code found (table_error.ChainCount sites slots) read refusal = absurd refusal

-- what is read of the sidecar's table and the program's code
pub reads_of : (p : Program) (s : Sidecar) (found : Option (List Place)) (table code : List ℕ) → s.debug_id ≡ p.debug_id → table ≡ s.positions.items → code ≡ p.code → IsRead table code found → ReadsPlaces p s found
reads_of p s found table code own e h read = record {
  own = own;
  read = subst (λ (t : List ℕ). IsRead t p.code found) e (subst (λ (c : List ℕ). IsRead table c found) h read);
}

-- a list in memory is too short to be mistaken for a count that stays at the greatest
pub equal_counts : {X Z : Type 0} (v : Vec X Z) (n : ℕ) → length v.items ≡ n → v.len ≡ min n 18446744073709551615
equal_counts v n e = let a = v.ok.0 in let b = v.ok.1 in let c = v.small in omega arith

pub one_count : {X Z : Type 0} (v : Vec X Z) (n : ℕ) → v.len ≡ min n 18446744073709551615 → length v.items ≡ n
one_count v n e = let a = v.ok.0 in let b = v.ok.1 in let c = v.small in omega arith
