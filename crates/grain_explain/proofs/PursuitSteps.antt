-- What is pursued stays so from one turn of a walk to the next.
use Rattle.std.proofs.Common.{◌≡◌, ◌⊎◌, ◌↔◌, ◌+◌, inl, inr, ℕ, ◌<◌, ◌≤◌, ◌++◌, ◌∷◌, ◌∙◌, [], List, length, get_or, set, true, Option, None, Some, sym, ap, subst, arith}
use Rattle.std.specs.List.{All, Contains}
use Rattle.std.proofs.lemmas.List.{get_or-set_same}
use Rattle.std.proofs.lemmas.Option.{none-some}
use Rattle.std.proofs.lemmas.List.Elements.{All-contains, Contains-push_cases}
use Rattle.grain_rules.specs.Code.{coded}
use Rattle.grain_rules.specs.Counts.{Counts}
use Rattle.grain_rules.specs.EffectView.{flow_in}
use Rattle.grain_rules.specs.Effects.{Edge}
use Rattle.grain_rules.specs.FlowFields.{falls_for, targets_for}
use Rattle.grain_rules.specs.Typing.{Passes}
use Rattle.grain_explain.specs.Pursuits.{ArePursued, WasVisited, IsAhead, IsBegun, IsPursued, Keeps, sent_to_next, sent_to}
use Rattle.grain_explain.specs.RowView.{AreLinked, counts_of}
use Rattle.grain_explain.specs.Scenes.{AreCome, Extends, IsCome, IsLeft, Seen}
use Rattle.grain_explain.specs.Ways.{Stop, arrival_stop}
use Rattle.grain_explain.specs.declared.arrival.Arrival.{Arrival}
use Rattle.grain_explain.specs.declared.row.LinkedBase.{LinkedBase}
use Rattle.grain_explain.specs.declared.walk.Departure.{Departure}
use Rattle.grain_explain.proofs.BaseExtension.{counts_kept, stop_kept}
use Rattle.grain_explain.proofs.EdgeMatches.{falling_known, jumping_known}
use Rattle.grain_explain.proofs.StepsBack.{stays_set}

-- once something is put in its place the entry was visited
pub begun_set : (slots : List (Option Arrival)) (j : ℕ) (a : Arrival) → j < length slots → get_or slots j None ≡ None → (j ≡ 0) ⊎ IsBegun slots → IsBegun (set slots j (Some a))
begun_set slots j a inside free (inl zero) = (a, subst (λ (n : ℕ). get_or (set slots j (Some a)) n None ≡ Some a) zero (get_or-set_same slots j (Some a) None inside))
begun_set slots j a inside free (inr (b, e)) = (b, stays_set slots j a free 0 b e)

-- a free place isn't that of the entry, once this was visited
pub not_first : (slots : List (Option Arrival)) (j : ℕ) → get_or slots j None ≡ None → IsBegun slots → j ≡ 0 → ⊥
not_first slots j free (b, e) zero = none-some b (sym free ∙ subst (λ (n : ℕ). get_or slots n None ≡ Some b) (sym zero) e)

-- and what is to be put there has come from another
pub comes_from : (s : Seen) (bases : List LinkedBase) (slots : List (Option Arrival)) (a : Arrival) (j : ℕ) → IsCome s bases slots a → a.row.at ≡ s.chunk.entry + j → get_or slots j None ≡ None → IsBegun slots
    → (a.from ≡ None) ↔ (j ≡ 0)
comes_from s bases slots a j come placed free begun = (
  λ from. (
      let same = rw from at come.origin in
      let at : a.row.at ≡ s.chunk.entry = ap (λ (x : Stop). x.0) same in
      omega arith
      ),
  λ zero. absurd (not_first slots j free begun zero),
)

-- an arrival whose state was visited need not wait
module _ (s : Seen) (bases : List LinkedBase) (slots : List (Option Arrival)) (work : List Arrival) (a b : Arrival) (held : WasVisited slots b) (same : arrival_stop bases b ≡ arrival_stop bases a) where
  ahead_less : (x : Stop) → IsAhead bases slots (work ++ a ∷ []) x → IsAhead bases slots work x
  ahead_less x (c, inl h, e) = (c, inl h, e)
  ahead_less x (c, inr h, e) = elim (Contains-push_cases work a c h) [
    | inl k ↦ (c, inr k, e)
    | inr k ↦ (b, inl held, same ∙ (ap (arrival_stop bases) k ∙ e))
  ]

  pub pursued_less : ArePursued s bases slots (work ++ a ∷ []) → ArePursued s bases slots work
  pursued_less h = record {
    entry = ahead_less _ h.entry;
    each = λ k c e. (let p = h.each k c e in record { op = p.op; passes = p.passes; onward = λ x d edge. ahead_less (x, d) (p.onward x d edge) });
  }

-- what is pursued where an arrival waits is pursued once this was visited
module _ (s : Seen) (old new : List LinkedBase) (linked : AreLinked old) (extends : Extends old new) (slots : List (Option Arrival)) (work more : List Arrival) (j : ℕ) (a : Arrival)
    (inside : j < length slots) (free : get_or slots j None ≡ None) (held : AreCome s old slots) (waits : All (IsCome s old slots) work) (come : IsCome s old slots a) (keeps : Keeps work more) where
  pub ahead_more : (x : Stop) → IsAhead old slots (work ++ a ∷ []) x → IsAhead new (set slots j (Some a)) more x
  ahead_more x (c, inl (k, e), f) = (c, inl (k, stays_set slots j a free k c e), sym (stop_kept old new linked extends c (held k c e).come.listed) ∙ f)
  ahead_more x (c, inr h, f) = elim (Contains-push_cases work a c h) [
    | inl k ↦ (c, inr (keeps c k), sym (stop_kept old new linked extends c (All-contains (IsCome s old slots) work c waits k).listed) ∙ f)
    | inr k ↦ (a, inl (j, get_or-set_same slots j (Some a) None inside), sym (stop_kept old new linked extends a come.listed) ∙ (ap (arrival_stop old) k ∙ f))
  ]

  pub each_more : (c : Arrival) → c.row.bases ≤ length old → IsPursued s old slots (work ++ a ∷ []) c → IsPursued s new (set slots j (Some a)) more c
  each_more c listed p =
      let kept = counts_kept old new linked extends c.row listed in
      record {
        op = p.op;
        passes = subst (λ (x : Counts). Passes (coded s.code) s.chunk c.row.at x p.op) (sym kept) p.passes;
        onward = λ b d edge. ahead_more (b, d) (p.onward b d (subst (λ (x : Counts). Edge (coded s.code) p.op c.row.at x b d) kept edge));
      }

-- where all that an instruction sends waits, it is pursued
module _ (s : Seen) (d : Departure) (left : IsLeft s d) (work : List Arrival) (sent : All (λ t. Contains work (sent_to d t)) (targets_for s.code.switches (flow_in d.effect.now)))
    (falls : falls_for (flow_in d.effect.now) ≡ true → Contains work (sent_to_next d)) where
  onward_left : (b : ℕ) (c : Counts) → Edge (coded s.code) left.op d.here.now.row.at (counts_of d.visited.bases.now d.here.now.row) b c
      → IsAhead d.visited.bases.now d.visited.slots.now work (b, c)
  onward_left b c (inl (named, is)) =
      let there = subst (λ (ts : List ℕ). Contains ts b) (sym (ap (targets_for s.code.switches) left.does.flow)) named in
      let counts = left.leaves.jump.is ∙ (jumping_known s.code.setting left.op d.visited.bases.now d.here.now.row d.effect.now left.does ∙ sym is) in
      let P : Counts → Stop = λ x. (b, x) in
      (sent_to d b, inr (All-contains (λ t. Contains work (sent_to d t)) (targets_for s.code.switches (flow_in d.effect.now)) b sent there), ap P counts)
  onward_left b c (inr (goes, there, is)) =
      let counts = left.leaves.fall.is ∙ (falling_known s.code.setting left.op d.visited.bases.now d.here.now.row d.effect.now left.does ∙ sym is) in
      let P : Counts → Stop = λ x. (d.next, x) in
      let Q : ℕ → Stop = λ n. (n, c) in
      (sent_to_next d, inr (falls (ap falls_for left.does.flow ∙ goes)), ap P counts ∙ ap Q (left.next ∙ sym there))

  pub pursued_left : IsPursued s d.visited.bases.now d.visited.slots.now work d.here.now
  pursued_left = record { op = left.op; passes = left.passes; onward = onward_left }
