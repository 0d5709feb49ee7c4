-- Starts, frames and arrivals.
use Rattle.std.proofs.Common.{◌≡◌, ◌⊎◌, ◌↔◌, inl, inr, ℕ, ◌+◌, ◌-◌, ◌<◌, ◌≤◌, List, [], length, get_or, replicate, Option, Some, None, set, zero, suc, true, false, nat_lt, Result, Ok, Err, IfNone, IfOk, OnOk, IfErr}
use Rattle.std.proofs.Common.{refl, sym, ap, subst, ◌∙◌, arith, ◌++◌, ◌∷◌}
use Rattle.std.specs.List.{AllZip, Contains}
use Rattle.std.specs.Result.{is_err}
use Rattle.std.specs.Prelude.{MatchOption}
use Rattle.std.proofs.lemmas.Bool.{cases_lt}
use Rattle.std.proofs.lemmas.Bool.Decides.{nat_tests}
use Rattle.std.proofs.lemmas.List.{get_or_default, get_or_past}
use Rattle.std.proofs.lemmas.Option.{none-some, same_Some}
use Rattle.grain_code.specs.InstructionTable.{width_of}
use Rattle.grain_code.specs.declared.op.Op.{Op}
use Rattle.grain_rules.specs.Code.{coded}
use Rattle.grain_rules.specs.Counts.{Counts}
use Rattle.grain_rules.specs.Effects.{Edge}
use Rattle.grain_rules.specs.FlowFields.{falls_for, targets_for}
use Rattle.grain_rules.specs.Typing.{IsInChunk, Reached, StandsIn, begin, onward}
use Rattle.grain_rules.proofs.CountGrowth.{edge_small}
use Rattle.grain_rules.proofs.Splits.{boundary_apart, next_start}
use Rattle.grain_explain.specs.Claimed.{falling_on, jumping}
use Rattle.grain_rules.specs.EffectView.{flow_in}
use Rattle.grain_explain.specs.RowView.{counts_of}
use Rattle.grain_explain.specs.Scenes.{AreCome, ArrivesInWalk, IsCome, IsHeld, IsLeft, IsReadyScene, Seen, visit_count}
use Rattle.grain_explain.specs.Ways.{Follows, Stop, arrival_stop, first_stop, row_stop, stops_of}
use Rattle.grain_explain.specs.declared.arrival.Arrival.{Arrival}
use Rattle.grain_explain.specs.declared.row.LinkedBase.{LinkedBase}
use Rattle.grain_explain.specs.declared.row.Row.{Row}
use Rattle.grain_explain.specs.declared.walk.Departure.{Departure}
use Rattle.grain_explain.proofs.EdgeMatches.{falling_known, jumping_known}
use Rattle.grain_explain.proofs.StepsBack.{bounded_more, leads_more, stays_set, visit_more}

-- there is a place for each address of the chunk
pub place_within : (s : Seen) (slots : List (Option Arrival)) (at entry : ℕ) → entry ≡ s.chunk.entry → length slots ≡ s.chunk.end - s.chunk.entry → IsInChunk (coded s.code) s.chunk at → at - entry < length slots
place_within s slots at entry same sized inside = let low = inside.entry in let high = inside.end in omega arith

-- a place that holds something is one of the list
pub held_within : (slots : List (Option Arrival)) (k : ℕ) (a : Arrival) → get_or slots k None ≡ Some a → k < length slots
held_within slots k a e = elim (cases_lt k (length slots)) [ inl l ↦ l | inr g ↦ absurd (none-some a (sym (get_or_past slots k None g) ∙ e)) ]

-- what was read at a place
pub slot_held : (slots : List (Option Arrival)) (i : ℕ) (x : Option Arrival) (a : Arrival) → i < length slots → x ≡ get_or slots i x → x ≡ Some a → get_or slots i None ≡ Some a
slot_held slots i x a l e is = sym (e ∙ get_or_default slots i x None l) ∙ is

below : (i n : ℕ) → true ≡ nat_lt i n → i < n
below i n e = grind (arith, nat_tests)

-- what was looked up there
pub slot_found : (slots : List (Option Arrival)) (i : ℕ) (x : Option Arrival) (a : Arrival) → true ≡ nat_lt i (length slots) → x ≡ get_or slots i x → x ≡ Some a → get_or slots i None ≡ Some a
slot_found slots i x a test e is = slot_held slots i x a (below i (length slots) test) e is

-- a way with one more state behind its first ones
pub way_more : (bases : List LinkedBase) (rows : List Row) (row : Row) (x y : Stop) (earlier : List Stop) → row_stop bases row ≡ x → stops_of bases (rows ++ row ∷ []) ++ y ∷ earlier ≡ stops_of bases rows ++ x ∷ (y ∷ earlier)
way_more bases [] row x y earlier same = ap (λ (z : Stop). z ∷ (y ∷ earlier)) same
way_more bases (r ∷ rs) row x y earlier same = ap (λ (zs : List Stop). row_stop bases r ∷ zs) (way_more bases rs row x y earlier same)

abbrev pub no_arrival : Option Arrival
no_arrival = None

-- where nothing was visited nothing is held
pub none_held : (n k : ℕ) (a : Arrival) → get_or (replicate n no_arrival) k None ≡ Some a → ⊥
none_held zero k a e = none-some a e
none_held (suc n) zero a e = none-some a e
none_held (suc n) (suc k) a e = none_held n k a e

pub free_place : (n k : ℕ) → get_or (replicate n no_arrival) k None ≡ None
free_place zero k = refl
free_place (suc n) zero = refl
free_place (suc n) (suc k) = free_place n k

pub none_come : (s : Seen) (bases : List LinkedBase) (n : ℕ) → AreCome s bases (replicate n None)
none_come s bases n k a e = absurd (none_held n k a e)

-- what is said of lists is said of these as they are read
pub come_read : (s : Seen) (bases read_bases : List LinkedBase) (slots read_slots : List (Option Arrival)) (a : Arrival) → read_bases ≡ bases → read_slots ≡ slots → IsCome s bases slots a → IsCome s read_bases read_slots a
come_read s bases read_bases slots read_slots a e f h = subst (λ (bs : List LinkedBase). IsCome s bs read_slots a) (sym e) (subst (λ (xs : List (Option Arrival)). IsCome s bases xs a) (sym f) h)

pub held_read : (s : Seen) (bases read_bases : List LinkedBase) (slots read_slots : List (Option Arrival)) → read_bases ≡ bases → read_slots ≡ slots → AreCome s bases slots → AreCome s read_bases read_slots
held_read s bases read_bases slots read_slots e f h = subst (λ (bs : List LinkedBase). AreCome s bs read_slots) (sym e) (subst (AreCome s bases) (sym f) h)

-- what the chunk begins with has come
pub first_come : (s : Seen) (bases : List LinkedBase) (slots : List (Option Arrival)) (a : Arrival) → IsReadyScene s → a.row.bases ≤ length bases → arrival_stop bases a ≡ first_stop s.chunk → a.from ≡ None
    → IsCome s bases slots a
first_come s bases slots a ready listed same none =
    let at : a.row.at ≡ s.chunk.entry = ap (λ (x : Stop). x.0) same in
    let operands : a.row.operands ≡ 0 = ap (λ (x : Stop). x.1.operands) same in
    let iterators : a.row.iterators ≡ 0 = ap (λ (x : Stop). x.1.iterators) same in
    let holds = ready.holds in
    record {
      listed = listed;
      inside = subst (IsInChunk (coded s.code) s.chunk) (sym at) (record { entry = omega arith; end = holds; place = ready.framed.entry });
      reached = subst (λ (x : Stop). Reached (coded s.code) s.chunk x.0 x.1) (sym same) begin;
      origin = rw none same;
      bounded = record { back = rw none tt; operands = omega arith; iterators = omega arith };
    }

module _ (s : Seen) (d : Departure) (left : IsLeft s d) where
  -- what comes along an edge has come
  pub along_come : (a : Arrival) → a.row.bases ≤ length d.visited.bases.now → a.from ≡ Some d.place → IsInChunk (coded s.code) s.chunk a.row.at
      → Edge (coded s.code) left.op d.here.now.row.at (counts_of d.visited.bases.now d.here.now.row) a.row.at (counts_of d.visited.bases.now a.row) → ArrivesInWalk s d.visited a
  along_come a listed from inside edge =
      let slots = d.visited.slots.now in
      let bases = d.visited.bases.now in
      let held = left.come d.place d.here.now left.held in
      let fewer = held.fewer in
      let small = edge_small (coded s.code) left.op d.here.now.row.at held.earlier (counts_of bases d.here.now.row) a.row.at (counts_of bases a.row) left.passes.meets
      (record { operands = held.bounded.operands; iterators = held.bounded.iterators }) edge in
      record {
        listed = listed;
        inside = inside;
        reached = onward held.come.reached left.passes edge;
        origin = rw from (d.here.now, left.held, (left.op, left.passes, edge));
        bounded = record {
          back = rw from (d.here.now, left.held, leads_more slots slots (λ k y e. e) (suc held.earlier) (visit_count slots) d.here.now (omega arith) held.bounded.back);
          operands = (let k = small.operands in omega arith);
          iterators = (let k = small.iterators in omega arith);
        };
      }

  pub jump_edge : (row : Row) (t : ℕ) (c : Counts) → row_stop d.visited.bases.now row ≡ (t, c) → Contains (targets_for s.code.switches (flow_in d.effect.now)) t → c ≡ jumping d.visited.bases.now d.here.now.row d.effect.now
      → Edge (coded s.code) left.op d.here.now.row.at (counts_of d.visited.bases.now d.here.now.row) row.at (counts_of d.visited.bases.now row)
  jump_edge row t c same named is =
      let there : t ≡ row.at = ap (λ (x : Stop). x.0) (sym same) in
      let counts : counts_of d.visited.bases.now row ≡ c = ap (λ (x : Stop). x.1) same in
      inl (
        subst (λ (ts : List ℕ). Contains ts row.at) (ap (targets_for s.code.switches) left.does.flow) (subst (Contains (targets_for s.code.switches (flow_in d.effect.now))) there named),
        counts ∙ (is ∙ jumping_known s.code.setting left.op d.visited.bases.now d.here.now.row d.effect.now left.does),
      )

pub zip_push : {A B : Type 0} (R : A → B → Type 0) (xs : List A) (ys : List B) (x : A) (y : B) → AllZip R xs ys → R x y → AllZip R (xs ++ x ∷ []) (ys ++ y ∷ [])
zip_push R [] [] x y h r = (r, tt)
zip_push R [] (v ∷ vs) x y h r = absurd h
zip_push R (u ∷ us) [] x y h r = absurd h
zip_push R (u ∷ us) (v ∷ vs) x y h r = (h.0, zip_push R us vs x y h.1 r)

-- what holds on success, where there is no error
pub not_err : {A E P : Type 0} (r : Result A E) → is_err r ≡ false → OnOk r P → P
not_err (Ok x) e h = h
not_err (Err x) e h = absurd (cc)

-- what follows where nothing is found
pub if_none : {A E P Q S : Type 0} (r : Result (Option A) E) → (P → Q → S) → OnOk r P → IfOk r (λ o. IfNone o Q) → IfOk r (λ o. IfNone o S)
if_none (Ok None) f p q = f p q
if_none (Ok (Some x)) f p q = tt
if_none (Err e) f p q = tt

-- the error of a failure, with what holds of it
pub of_err : {A E : Type 0} {P : E → Type 0} (r : Result A E) → is_err r ≡ true → IfErr r P → (e : E) × P e
of_err (Ok x) e h = absurd (cc)
of_err (Err x) e h = (x, h)

-- what is in a list of places after one was set
pub set_place : {A : Type 0} (xs : List (Option A)) (j k : ℕ) (a b : A) → get_or (set xs j (Some a)) k None ≡ Some b → ((k ≡ j) × (a ≡ b)) ⊎ (get_or xs k None ≡ Some b)
set_place [] j k a b e = inr e
set_place (x ∷ xs) zero zero a b e = inl (refl, same_Some a b e)
set_place (x ∷ xs) zero (suc k) a b e = inr e
set_place (x ∷ xs) (suc j) zero a b e = inr e
set_place (x ∷ xs) (suc j) (suc k) a b e = elim (set_place xs j k a b e) [ inl h ↦ inl (ap suc h.0, h.1) | inr old ↦ inr old ]

module _ (s : Seen) (bases : List LinkedBase) (slots : List (Option Arrival)) (j : ℕ) (a : Arrival) (inside : j < length slots) (free : get_or slots j None ≡ None) where
  kept_origin : (x : Stop) (o : Option ℕ) → MatchOption o (x ≡ first_stop s.chunk) (λ k. (y : Arrival) × (get_or slots k None ≡ Some y) × Follows s.code s.chunk (arrival_stop bases y) x)
      → MatchOption o (x ≡ first_stop s.chunk) (λ k. (y : Arrival) × (get_or (set slots j (Some a)) k None ≡ Some y) × Follows s.code s.chunk (arrival_stop bases y) x)
  kept_origin x None h = h
  kept_origin x (Some k) (y, e, f) = (y, stays_set slots j a free k y e, f)

  -- what has come has come, once another is put in its place
  pub come_kept : (b : Arrival) → IsCome s bases slots b → IsCome s bases (set slots j (Some a)) b
  come_kept b h =
      let more = visit_more slots j a inside free in
      record {
        listed = h.listed;
        inside = h.inside;
        reached = h.reached;
        origin = kept_origin (arrival_stop bases b) b.from h.origin;
        bounded = bounded_more slots (set slots j (Some a)) (stays_set slots j a free) (visit_count slots) (visit_count (set slots j (Some a))) b (omega (arith, more)) h.bounded;
      }

  pub come_set : AreCome s bases slots → IsCome s bases slots a → a.row.at ≡ s.chunk.entry + j → (a.from ≡ None) ↔ (j ≡ 0) → AreCome s bases (set slots j (Some a))
  come_set all here placed first k b e =
      let more = visit_more slots j a inside free in
      let put = set slots j (Some a) in
      let stays = stays_set slots j a free in
      elim (set_place slots j k a b e) [
        | inl h ↦
            let at : a.row.at ≡ s.chunk.entry + k = omega (arith, h.0, placed) in
            subst (IsHeld s bases put k) h.1 (record {
              come = come_kept a here;
              placed = at;
              first = (λ from. h.0 ∙ first.0 from, λ zero. first.1 (sym h.0 ∙ zero));
              earlier = visit_count slots;
              fewer = omega (arith, more);
              bounded = bounded_more slots put stays (visit_count slots) (visit_count slots) a (omega arith) here.bounded;
            })
        | inr old ↦
            let held = all k b old in
            let fewer = held.fewer in
            record {
              come = come_kept b held.come;
              placed = held.placed;
              first = held.first;
              earlier = held.earlier;
              fewer = omega (arith, more, fewer);
              bounded = bounded_more slots put stays held.earlier held.earlier b (omega arith) held.bounded;
            }
      ]

-- an instruction of the chunk whose next address isn't the chunk's end is followed by one of the chunk
pub next_inside : (s : Seen) (at next : ℕ) (op : Op) → IsReadyScene s → StandsIn (coded s.code) s.chunk at op → next ≡ at + width_of op → (next ≡ s.chunk.end → ⊥) → IsInChunk (coded s.code) s.chunk next
next_inside s at next op ready stands is unlike =
    let within = stands.within in
    let low = within.entry in
    let there : IsInChunk (coded s.code) s.chunk (at + width_of op) = elim (next_start s.code.bytes at s.chunk.end op within.place ready.framed.end stands.is within.end ready.framed.inside) [
      | inl k ↦ record { entry = omega arith; end = k.0; place = k.1 }
      | inr e ↦ absurd (unlike (is ∙ e))
    ] in
    subst (IsInChunk (coded s.code) s.chunk) (sym is) there

-- and its next address lies in the chunk, or is the chunk's end
pub next_within : (s : Seen) (at next : ℕ) (op : Op) → IsReadyScene s → StandsIn (coded s.code) s.chunk at op → next ≡ at + width_of op → next ≤ s.chunk.end
next_within s at next op ready stands is =
    let within = stands.within in
    let e : at + width_of op ≤ s.chunk.end = boundary_apart s.code.bytes at s.chunk.end op within.place ready.framed.end stands.is within.end in
    omega arith

module _ (s : Seen) (d : Departure) (left : IsLeft s d) where
  pub fall_edge : (row : Row) (t : ℕ) (c : Counts) → row_stop d.visited.bases.now row ≡ (t, c) → t ≡ d.next → falls_for (flow_in d.effect.now) ≡ true → c ≡ falling_on d.visited.bases.now d.here.now.row d.effect.now
      → Edge (coded s.code) left.op d.here.now.row.at (counts_of d.visited.bases.now d.here.now.row) row.at (counts_of d.visited.bases.now row)
  fall_edge row t c same next goes is =
      let there : row.at ≡ t = ap (λ (x : Stop). x.0) same in
      let counts : counts_of d.visited.bases.now row ≡ c = ap (λ (x : Stop). x.1) same in
      inr (sym (ap falls_for left.does.flow) ∙ goes, there ∙ (next ∙ left.next), counts ∙ (is ∙ falling_known s.code.setting left.op d.visited.bases.now d.here.now.row d.effect.now left.does))
