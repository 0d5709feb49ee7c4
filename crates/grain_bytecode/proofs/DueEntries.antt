-- The entries of a table that are ahead of a walk over the code.
use Rattle.std.proofs.Common.{◌≡◌, ℕ, suc, ◌+◌, ◌<◌, ◌≤◌, inl, inr, List, [], ◌∷◌, length, drop, true, false, Bool, cond, nat_lt, nat_le, nat_eq, find, Option, Some, None, refl, sym, ap, subst, ◌∙◌, arith}
use Rattle.std.specs.Prelude.{option_and_then, option_to_list}
use Rattle.std.specs.List.{prefix_len}
use Rattle.std.proofs.lemmas.Bool.{cases_eq, cases_lt, eq-eqb, ne_eqb}
use Rattle.std.proofs.lemmas.Bool.Decides.{nat_tests}
use Rattle.grain_base.proofs.Entries.{next_once}
use Rattle.grain_base.proofs.IncreasingLists.{RisesFrom, rises_from}
use Rattle.grain_base.specs.AddressTable.{Entry, addresses, AreEntries, AreDue, EntrySteps, Table, known, site_at}
use Rattle.grain_base.specs.EntriesLeft.{EntriesLeft}
use Rattle.grain_base.specs.Varint.{BeginsNumbers}
use Rattle.grain_base.specs.declared.pos.Site.{Site}
use Rattle.grain_base.specs.declared.position.Position.{Position}
use Rattle.grain_bytecode.specs.Positions.{AreAhead, IsPlaced, from_address, code_site}

-- one step from entries that are due
pub ahead_next : (old new : EntriesLeft) (r : Option Entry) (list : List Entry) → AreDue old list → EntrySteps old r new → AreAhead r new list
ahead_next old new None [] due step = refl
ahead_next old new None (e ∷ list) due (inl over, same) = absurd (omega (arith, due.2))
ahead_next old new None (e ∷ list) due (inr none, same) = absurd (none e due.1.0 due.1.1)
ahead_next old new (Some entry) [] due step = absurd (omega (arith, due.2, step.0))
ahead_next old new (Some entry) (e ∷ list) due step =
    let one = next_once old.before old.bytes entry e new.bytes due.1.0 step.1 due.1.1 in
    let before : e.0 ≡ new.before = sym (step.2 ∙ ap (λ (x : Entry). x.0) one.0) in
    let are : AreEntries new.before new.bytes list due.0 = subst (λ (b : ℕ). AreEntries b new.bytes list due.0) before (subst (λ (xs : List ℕ). AreEntries e.0 xs list due.0) (sym one.1) due.1.2) in
    (list, (due.0, are, omega (arith, step.0, due.2)), ap (λ (x : Entry). x ∷ list) (sym one.0))

-- an entry that stands before an address is passed over
passed : (at : ℕ) (e : Entry) (list : List Entry) → e.0 < at → from_address at (e ∷ list) ≡ from_address at list
passed at e list below =
    let test : nat_lt e.0 at ≡ true = grind (arith, nat_tests) in
    let tests : Entry → Bool = λ entry. nat_lt entry.0 at in
    let one : 1 + prefix_len tests list ≡ suc (prefix_len tests list) = omega arith in
    rw test (ap (λ (n : ℕ). drop n (e ∷ list)) one)

-- any other is the first
kept : (at : ℕ) (e : Entry) (list : List Entry) → at ≤ e.0 → from_address at (e ∷ list) ≡ e ∷ list
kept at e list behind =
    let test : nat_lt e.0 at ≡ false = grind (arith, nat_tests) in
    rw test refl

-- What is ahead from an address on is still there.
abbrev pub Skipped : ℕ → Option Entry → EntriesLeft → Option Entry → EntriesLeft → Type 0
Skipped at read from next left = (list : List Entry) → AreAhead read from list → (ahead : List Entry) × AreAhead next left ahead × (from_address at ahead ≡ from_address at list)

pub skipped_more : (at : ℕ) (read : Option Entry) (from : EntriesLeft) (entry : Entry) (old new : EntriesLeft) (r : Option Entry) → Skipped at read from (Some entry) old
    → entry.0 < at → EntrySteps old r new → Skipped at read from r new
skipped_more at read from entry old new r skipped below step list is =
    let w = skipped list is in
    let others = w.1.0 in
    let same : from_address at others ≡ from_address at list = sym (passed at entry others below) ∙ ap (from_address at) (sym w.1.2) ∙ w.2 in
    (others, ahead_next old new r others w.1.1 step, same)

-- The entries ahead rise, and from an address on they have the sites of all.
pub record Nears (list ahead : List Entry) (at : ℕ) : Type 0 where
  pub least : ℕ
  pub rises : RisesFrom least (addresses ahead)
  pub same : (a : ℕ) → at ≤ a → site_at list a ≡ site_at ahead a

-- below the first address there is nothing
nothing_below : (least : ℕ) (list : List Entry) (a : ℕ) → RisesFrom least (addresses list) → a < least → find (λ entry. nat_eq entry.0 a) list ≡ None
nothing_below least [] a rises below = refl
nothing_below least (e ∷ list) a rises below =
    rw (ne_eqb e.0 a (λ same. absurd (omega (arith, rises.0)))) (nothing_below (e.0 + 1) list a rises.1 (omega (arith, rises.0)))

-- no entry but the first can stand at an address that isn't behind it
first_only : (least : ℕ) (e : Entry) (list : List Entry) (at : ℕ) → RisesFrom least (addresses (e ∷ list)) → at ≤ e.0 → site_at (e ∷ list) at ≡ site_at (e ∷ []) at
first_only least e list at rises behind = elim (cases_eq e.0 at) [
  | inl same ↦ rw (eq-eqb e.0 at same) refl
  | inr other ↦ rw (ne_eqb e.0 at other) (ap (option_and_then known) (nothing_below (e.0 + 1) list at rises.1 (omega arith)))
]

-- the entries that are passed over have no site behind
pub nears_from : (list ahead : List Entry) (at : ℕ) → Nears list ahead at → Nears list (from_address at ahead) at
nears_from list [] at near = near
nears_from list (e ∷ ahead) at near = elim (cases_lt e.0 at) [
  | inl below ↦ subst (λ (xs : List Entry). Nears list xs at) (sym (passed at e ahead below)) (nears_from list ahead at (record {
    least = e.0 + 1;
    rises = near.rises.1;
    same = λ a behind. near.same a behind ∙ rw (ne_eqb e.0 a (λ same. absurd (omega arith))) refl;
  }))
  | inr behind ↦ subst (λ (xs : List Entry). Nears list xs at) (sym (kept at e ahead behind)) near
]

pub nears_on : (list ahead : List Entry) (at behind : ℕ) → at ≤ behind → Nears list ahead at → Nears list ahead behind
nears_on list ahead at behind less near = record { least = near.least; rises = near.rises; same = λ a more. near.same a (omega arith) }

-- the first entry from an address on isn't before it
not_before : (at : ℕ) (list others : List Entry) (entry : Entry) → from_address at list ≡ entry ∷ others → at ≤ entry.0
not_before at [] others entry is = absurd cc
not_before at (e ∷ list) others entry is = elim (cases_lt e.0 at) [
  | inl below ↦ not_before at list others entry (sym (passed at e list below) ∙ is)
  | inr behind ↦ let same : e ≡ entry = (let whole = sym (kept at e list behind) ∙ is in cc) in subst (λ (x : Entry). at ≤ x.0) same behind
]

-- the entry that was read has the site, if any entry has one
pub met_ahead : (list ahead : List Entry) (at : ℕ) (next : Option Entry) (left : EntriesLeft) → Nears list ahead at → AreAhead next left (from_address at ahead) → code_site (option_to_list next) at ≡ code_site list at
met_ahead list ahead at None left near is =
    let n = nears_from list ahead at near in
    ap (λ (site : Option Site). cond (nat_le at 4294967295) site None) (sym (n.same at (omega arith) ∙ ap (λ (xs : List Entry). site_at xs at) is))
met_ahead list ahead at (Some entry) left near is =
    let n = nears_from list ahead at near in
    let rises = subst (λ (xs : List Entry). RisesFrom n.least (addresses xs)) is.2 n.rises in
    let one = first_only n.least entry is.0 at rises (not_before at ahead is.0 entry is.2) in
    ap (λ (site : Option Site). cond (nat_le at 4294967295) site None) (sym (n.same at (omega arith) ∙ ap (λ (xs : List Entry). site_at xs at) is.2 ∙ one))

-- A walk has reached an address of the code, and has these entries of the table ahead.
abbrev pub Abreast : List ℕ → ℕ → Option Entry → EntriesLeft → Type 0
Abreast table at next left = (list : List Entry) → Table table list → (ahead : List Entry) × AreAhead next left ahead × Nears list ahead at

pub abreast_start : (table : List ℕ) (start new : EntriesLeft) (next : Option Entry)
    → ((n : ℕ) (after : List ℕ) → BeginsNumbers table (n ∷ []) after → start ≡ record { count = n; before = 0; bytes = after }) → EntrySteps start next new → Abreast table 0 next new
abreast_start table start new next begins step list is =
    let at_start = begins (length list) is.after is.counted in
    let due : AreDue start list = subst (λ (s : EntriesLeft). AreDue s list) (sym at_start) ([], is.entries, refl) in
    (list, ahead_next start new next list due step, record { least = 0; rises = rises_from (addresses list) is.ascending; same = λ a behind. refl })

-- the entries before the address are passed over
pub abreast_from : (table : List ℕ) (at : ℕ) (read next : Option Entry) (from left : EntriesLeft) → Abreast table at read from
    → ((list : List Entry) → AreAhead read from list → AreAhead next left (from_address at list)) → Abreast table at next left
abreast_from table at read next from left abreast skips list is =
    let w = abreast list is in
    (from_address at w.0, skips w.0 w.1, nears_from list w.0 at w.2)

pub abreast_on : (table : List ℕ) (at behind : ℕ) (next : Option Entry) (left : EntriesLeft) → at ≤ behind → Abreast table at next left → Abreast table behind next left
abreast_on table at behind next left less abreast list is =
    let w = abreast list is in
    (w.0, w.1, nears_on list w.0 at behind less w.2)

-- what is placed for the entry is placed for the table
pub place_of_table : (table : List ℕ) (at : ℕ) (read next : Option Entry) (from left : EntriesLeft) (old new : List Position) (met : Bool) → Abreast table at read from
    → ((list : List Entry) → AreAhead read from list → AreAhead next left (from_address at list))
    → IsPlaced (code_site (option_to_list next) at) at old new met → (list : List Entry) → Table table list → IsPlaced (code_site list at) at old new met
place_of_table table at read next from left old new met abreast skips placed list is =
    let w = abreast list is in
    subst (λ (site : Option Site). IsPlaced site at old new met) (met_ahead list w.0 at next left w.2 (skips w.0 w.1)) placed
