-- Reading code from its beginning, and what a table has for the addresses on the way.
use Rattle.std.proofs.Common.{◌≡◌, ◌≢◌, ℕ, ◌+◌, ◌<◌, ◌≤◌, List, [], ◌∷◌, ◌++◌, length, map, take, get_or, slice_set, true, false}
use Rattle.std.proofs.Common.{Bool, cond, ◌||◌, eqb, nat_lt, inl, inr, Option, Some, None, is_some, refl, sym, ap, subst, ◌∙◌, arith}
use Rattle.std.specs.Prelude.{All, option_and_then}
use Rattle.std.specs.List.{list_any}
use Rattle.std.proofs.lemmas.Bool.{cases_eq, eq-eqb, ne_eqb}
use Rattle.std.proofs.lemmas.Bool.Decides.{nat_tests}
use Rattle.std.proofs.lemmas.List.{append-nil, length-map, length-set, get_or-set_same, get_or-set_other, drop_all}
use Rattle.std.proofs.lemmas.List as lists
use Rattle.std.proofs.lemmas.List.Folds.{list_any-append}
use Rattle.std.proofs.lemmas.List.FromFn.{fill_by_all}
use Rattle.std.proofs.lemmas.List.Sums.{sum_by_push}
use Rattle.grain_base.specs.AddressTable.{Entry, Table}
use Rattle.grain_base.specs.Place.{place_of}
use Rattle.grain_base.specs.declared.pos.Site.{Site}
use Rattle.grain_base.specs.declared.position.Position.{Position}
use Rattle.grain_bytecode.specs.Positions.{Arrived, IsPlaced, site_place, code_site, matched, byte_place, table_places}
use Rattle.grain_code.specs.Split.{BeginsNone, StandsAt, NoneStandsAt, AreInstructions, starts_from, Split}
use Rattle.grain_code.specs.InstructionTable.{width_of}
use Rattle.grain_code.specs.declared.op.Op.{Op}
use Rattle.grain_code.proofs.Boundaries.{next_start, one_end}
use Rattle.grain_code.proofs.Instructions.{begins_none_nil}
use Rattle.grain_code.proofs.Splits.{one_more, one_split}

-- each byte has its place, where reading has arrived at these addresses
abbrev pub Placed : List Entry → List ℕ → ℕ → List Position → Type 0
Placed list arrived n positions = (k : ℕ) (d : Position) → k < n → place_of (get_or positions k d) ≡ byte_place list arrived k

-- What reading has found at these addresses.
pub record Found (list : List Entry) (arrived : List ℕ) (n count : ℕ) (positions : List Position) : Type 0 where
  pub counted : count ≡ matched list arrived
  pub placed : Placed list arrived n positions

-- Reading has reached an address, and has found what is before it.
pub record Walked (table code : List ℕ) (at count : ℕ) (positions : List Position) : Type 0 where
  pub ops : List Op
  pub front : AreInstructions (take at code) ops
  pub inside : at ≤ length code
  pub few : count ≤ at
  pub sized : length positions ≡ length code
  pub found : (list : List Entry) → Table table list → Found list (starts_from 0 ops) (length code) count positions

pub walked_none : (table code : List ℕ) (positions : List Position) → length positions ≡ length code → All (λ position. place_of position ≡ None) positions → Walked table code 0 0 positions
walked_none table code positions sized blank = record {
  ops = [];
  front = record { each = tt; whole = refl };
  inside = omega arith;
  few = omega arith;
  sized = sized;
  found = λ list is. record { counted = refl; placed = λ k d inside. blank k d (omega arith) };
}

-- one address more that is arrived at
any-push : (arrived : List ℕ) (at k : ℕ) → list_any (λ there. eqb there k) (arrived ++ at ∷ []) ≡ (list_any (λ there. eqb there k) arrived || (eqb at k || false))
any-push arrived at k = list_any-append (λ there. eqb there k) arrived (at ∷ [])

or_true : (b : Bool) → (b || true) ≡ true
or_true true = refl
or_true false = refl

or_false : (b : Bool) → (b || false) ≡ b
or_false true = refl
or_false false = refl

here : (list : List Entry) (arrived : List ℕ) (at : ℕ) → byte_place list (arrived ++ at ∷ []) at ≡ option_and_then site_place (code_site list at)
here list arrived at =
    let met : list_any (λ there. eqb there at) (arrived ++ at ∷ []) ≡ true = any-push arrived at at ∙ rw (eq-eqb at at refl) (or_true (list_any (λ there. eqb there at) arrived)) in
    rw met refl

elsewhere : (list : List Entry) (arrived : List ℕ) (at k : ℕ) → at ≢ k → byte_place list (arrived ++ at ∷ []) k ≡ byte_place list arrived k
elsewhere list arrived at k other =
    let same : list_any (λ there. eqb there k) (arrived ++ at ∷ []) ≡ list_any (λ there. eqb there k) arrived = any-push arrived at k ∙ rw (ne_eqb at k other) (or_false (list_any (λ there. eqb there k) arrived)) in
    rw same refl

-- where no entry stands, no byte has a place yet
nothing : (list : List Entry) (arrived : List ℕ) (at : ℕ) → None ≡ code_site list at → byte_place list arrived at ≡ None
nothing list arrived at none = go (list_any (λ there. eqb there at) arrived)
  where
    go : (b : Bool) → cond b (option_and_then site_place (code_site list at)) None ≡ None
    go true = rw (← none) refl
    go false = refl

-- the address is looked up
pub found_more : (list : List Entry) (arrived : List ℕ) (n at count : ℕ) (old new : List Position) (met : Bool) → Found list arrived n count old → at < n → length old ≡ n → IsPlaced (code_site list at) at old new met
    → Found list (arrived ++ at ∷ []) n (count + cond met 1 0) new
found_more list arrived n at count old new met found inside sized is = by_site (code_site list at) refl is
  where
    more : (site : Option Site) → code_site list at ≡ site → met ≡ is_some site → count + cond met 1 0 ≡ matched list (arrived ++ at ∷ [])
    more site e m = ap (λ c. c + cond met 1 0) found.counted ∙ ap (λ b. matched list arrived + cond b 1 0) (m ∙ ap is_some (sym e)) ∙ sym (sum_by_push (λ a. cond (is_some (code_site list a)) 1 0) arrived at)

    by_site : (site : Option Site) → code_site list at ≡ site → IsPlaced site at old new met → Found list (arrived ++ at ∷ []) n (count + cond met 1 0) new
    by_site None e (same, unmet) = record {
      counted = more None e unmet;
      placed = λ k d below. rw same (elim (cases_eq at k) [
        | inl it ↦ found.placed k d below ∙ subst (λ j. byte_place list arrived j ≡ byte_place list (arrived ++ at ∷ []) j) it
            (nothing list arrived at (sym e) ∙ sym (here list arrived at ∙ ap (option_and_then site_place) e))
        | inr other ↦ found.placed k d below ∙ sym (elsewhere list arrived at k other)
      ]);
    }
    by_site (Some site) e (position, place, set, hit) = record {
      counted = more (Some site) e hit;
      placed = λ k d below. rw set (elim (cases_eq at k) [
        | inl it ↦ subst (λ j. place_of (get_or (slice_set old at position) j d) ≡ byte_place list (arrived ++ at ∷ []) j) it
            (ap place_of (get_or-set_same old at position d (omega arith)) ∙ place ∙ sym (here list arrived at ∙ ap (option_and_then site_place) e))
        | inr other ↦ ap place_of (get_or-set_other old at k position d (λ same. other (sym same))) ∙ found.placed k d below ∙ sym (elsewhere list arrived at k other)
      ]);
    }

-- past the instruction at an address that was looked up
pub walked_more : (table code : List ℕ) (at count width : ℕ) (old new : List Position) (met : Bool) → Walked table code at count old → at < length code → length new ≡ length old
    → ((list : List Entry) → Table table list → IsPlaced (code_site list at) at old new met) → (op : Op) × StandsAt code at op × (width ≡ width_of op) → (0 < width) × (at + width ≤ length code)
    → Walked table code (at + width) (count + cond met 1 0) new
walked_more table code at count width old new met walked inside sized is (op, stands, wide) (some, fits) =
    let next = next_start code at walked.ops op walked.inside walked.front in
    record {
      ops = walked.ops ++ op ∷ [];
      front = subst (λ w. AreInstructions (take (at + w) code) (walked.ops ++ op ∷ [])) (sym wide) (one_more code at walked.ops op walked.front stands);
      inside = fits;
      few = few met;
      sized = sized ∙ walked.sized;
      found = λ list table_is. rw next (found_more list (starts_from 0 walked.ops) (length code) at count old new met (walked.found list table_is) inside walked.sized (is list table_is));
    }
  where
    few : (b : Bool) → count + cond b 1 0 ≤ at + width
    few true = let before = walked.few in omega arith
    few false = let before = walked.few in omega arith

-- the places as a list
pub placed_list : (list : List Entry) (arrived code : List ℕ) (positions : List Position) → length positions ≡ length code → Placed list arrived (length code) positions
    → map place_of positions ≡ table_places list arrived code
placed_list list arrived code [] sized placed = fill_by_all (byte_place list arrived) [] (length code) None sized (λ k inside. absurd (omega arith))
placed_list list arrived code (p ∷ ps) sized placed =
    fill_by_all (byte_place list arrived) (map place_of (p ∷ ps)) (length code) None (length-map (p ∷ ps) place_of ∙ sized) (λ k inside. lists.get_or-map place_of (p ∷ ps) k p None (omega arith) ∙ placed k p inside)

-- what is reported in the end
abbrev pub Told : List ℕ → List ℕ → ℕ → List Position → Type 0
Told table code count positions = (arrived : List ℕ) × Arrived code arrived × ((list : List Entry) → Table table list → (count ≡ matched list arrived) × (map place_of positions ≡ table_places list arrived code))

-- no instruction stands at the address that was looked up last
pub walk_stops : (table code : List ℕ) (at count : ℕ) (old new : List Position) (met : Bool) → Walked table code at count old → at < length code → length new ≡ length old
    → ((list : List Entry) → Table table list → IsPlaced (code_site list at) at old new met) → NoneStandsAt code at → Told table code (count + cond met 1 0) new
walk_stops table code at count old new met walked inside sized is none =
    let starts = starts_from 0 walked.ops in
    let before : nat_lt at (length code) ≡ true = grind (arith, nat_tests) in (
      starts ++ at ∷ [],
      record { end = at; starts = starts; inside = walked.inside; front = (walked.ops, walked.front, refl); longest = none; addresses = rw before refl },
      λ list table_is. (let all = found_more list starts (length code) at count old new met (walked.found list table_is) inside walked.sized (is list table_is) in
          (all.counted, placed_list list (starts ++ at ∷ []) code new (sized ∙ walked.sized) all.placed)),
    )

-- the code is instructions to its end
pub walk_ends : (table code : List ℕ) (at count : ℕ) (positions : List Position) → Walked table code at count positions → length code ≤ at → Told table code count positions
walk_ends table code at count positions walked over =
    let starts = starts_from 0 walked.ops in
    let past : nat_lt at (length code) ≡ false = grind (arith, nat_tests) in
    let none : NoneStandsAt code at = subst BeginsNone (sym (drop_all at code over)) begins_none_nil in (
      starts,
      record { end = at; starts = starts; inside = walked.inside; front = (walked.ops, walked.front, refl); longest = none; addresses = rw past (sym (append-nil starts)) },
      λ list table_is. (let all = walked.found list table_is in (all.counted, placed_list list starts code positions walked.sized all.placed)),
    )

-- reading arrives at one list of addresses
pub one_arrival : (code arrived other : List ℕ) → Arrived code arrived → Arrived code other → arrived ≡ other
one_arrival code arrived other a b =
    let end : a.end ≡ b.end = one_end code a.end b.end a.inside b.inside (a.starts, a.front, a.longest) (b.starts, b.front, b.longest) in
    let starts : a.starts ≡ b.starts = one_split (take a.end code) a.starts b.starts a.front (subst (λ n. Split (take n code) b.starts) (sym end) b.front) in
    a.addresses ∙ ap (λ list. list ++ cond (nat_lt a.end (length code)) (a.end ∷ []) []) starts ∙ ap (λ n. b.starts ++ cond (nat_lt n (length code)) (n ∷ []) []) end ∙ sym b.addresses
