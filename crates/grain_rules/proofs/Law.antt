-- What walks reach is what kept runs reach.
use Rattle.std.proofs.Common.{◌≡◌, ℕ, ◌<◌, ◌≤◌, ◌⊎◌, ◌↔◌, inl, inr, suc, zero, Bool, true, false, cond, List, [], ◌∷◌, map, min, Option, Some, refl, sym, ap, subst, ◌∙◌, arith}
use Rattle.std.specs.List.{Contains}
use Rattle.std.proofs.lemmas.Option.{same_Some, none-some}
use Rattle.std.proofs.lemmas.List.Elements.{Contains-push}
use Rattle.grain_code.specs.Span.{Span}
use Rattle.grain_code.specs.declared.op.Op.{Op}
use Rattle.grain_rules.specs.Code.{Code}
use Rattle.grain_rules.specs.Counts.{Counts, armed, without_last}
use Rattle.grain_rules.specs.Effects.{Edge, after_fall, after_jump, falls_through, operands_after, targets}
use Rattle.grain_rules.specs.Flow.{Flow, PopsHandler, PushesHandler}
use Rattle.grain_rules.specs.Layout.{next, switches}
use Rattle.grain_rules.specs.Machine.{Handler, Machine, first, base_of, counts, Finds, handlers_behind, handlers_after, Flows, Steps, innermost, Catches, IsKept, Moves, IsKeptRun, IsOnKeptRun}
use Rattle.grain_rules.specs.FlowFields.{bases_for, fall_for, falls_for, jump_for, jumps_for, targets_for}
use Rattle.grain_rules.specs.Rows.{flow_of}
use Rattle.grain_rules.specs.EdgeSteps.{IsArmed, armed_counts, IsEdgeStep, IsEdgeCatch}
use Rattle.grain_rules.specs.Typing.{IsTyping, HasTyping, Passes, Reached, begin, onward}
use Rattle.grain_rules.proofs.OperationUniqueness.{reads_once}

-- a typing covers what is reached, with the very counts
pub typing_covers : (code : Code) (chunk : Span) (m : ℕ) (typing : ℕ → Option Counts) → IsTyping code chunk m typing → (at : ℕ) (c : Counts) → Reached code chunk at c → typing at ≡ Some c
typing_covers code chunk m typing h at c begin = h.entry
typing_covers code chunk m typing h b d (onward {at} {c} {op} r p e) = h.closed at c op b d (typing_covers code chunk m typing h at c r) p.stands.is e

not_in_nil : {A : Type 0} (x : A) → Contains [] x → ⊥
not_in_nil x c = let h : c.0 < 0 = c.1 in omega arith

only_one : (x y : ℕ) → Contains (x ∷ []) y → y ≡ x
only_one x y (zero, l, e) = sym e
only_one x y (suc k, l, e) = absurd (let h : suc k < suc 0 = l in omega arith)

min_right : {a b : ℕ} → b ≤ a → b ≡ min a b
min_right {a} {b} h = omega arith

pub counts_ext : (c d : Counts) → c.operands ≡ d.operands → c.iterators ≡ d.iterators → c.bases ≡ d.bases → c ≡ d
counts_ext c d x y z = λ i. record { operands = x i; iterators = y i; bases = z i }

fall_bases : (f : Flow) (left : ℕ) (c : Counts) → (fall_for f left c).bases ≡ bases_for f c
fall_bases (PushesHandler target) left c = refl
fall_bases f left c = refl

jump_bases : (f : Flow) (switches : List (List ℕ)) (left : ℕ) (c : Counts) (b : ℕ) → Contains (targets_for switches f) b → (jump_for f left c).bases ≡ bases_for f c
jump_bases PopsHandler switches left c b h = absurd (not_in_nil b h)
jump_bases f switches left c b h = refl

pub edge_bases : (code : Code) (op : Op) (at : ℕ) (c : Counts) (b : ℕ) (d : Counts) → Edge code op at c b d → d.bases ≡ bases_for (flow_of op) c
edge_bases code op at c b d (inl j) = ap (λ (x : Counts). x.bases) j.1 ∙ jump_bases (flow_of op) (switches code.layout) (operands_after code.setting op c.operands) c b j.0
edge_bases code op at c b d (inr g) = ap (λ (x : Counts). x.bases) g.2 ∙ fall_bases (flow_of op) (operands_after code.setting op c.operands) c

map_without_last : (hs : List Handler) → map base_of (without_last hs) ≡ without_last (map base_of hs)
map_without_last [] = refl
map_without_last (h ∷ hs) = refl

handlers_bases : (f : Flow) (m : Machine) → map base_of (handlers_behind f m) ≡ bases_for f (counts m)
handlers_bases (PushesHandler target) m = refl
handlers_bases PopsHandler m = map_without_last m.handlers
handlers_bases f m = refl

flows_edge : (code : Code) (op : Op) (at : ℕ) (c : Counts) (b : ℕ) (d : Counts) → Flows code op at c b d → Edge code op at c b d
flows_edge code op at c b d (inl j) = inl j.1
flows_edge code op at c b d (inr g) = inr g

-- a jump is one that a step follows, or the catch edge
jumps_or_catches : (f : Flow) (switches : List (List ℕ)) (b : ℕ) → Contains (targets_for switches f) b → (jumps_for f ≡ true) ⊎ (f ≡ PushesHandler b)
jumps_or_catches (PushesHandler target) switches b h = inr (ap PushesHandler (sym (only_one target b h)))
jumps_or_catches f switches b h = inl refl

-- each handler was armed
abbrev pub AreArmed : Code → Span → List Handler → Type 0
AreArmed code chunk [] = Unit {0}
AreArmed code chunk (h ∷ hs) = IsArmed code chunk h hs × AreArmed code chunk hs

-- a state of a run is reached, and its handlers were armed
pub record IsTied (code : Code) (chunk : Span) (m : Machine) : Type 0 where
  pub reached : Reached code chunk m.address (counts m)
  pub armed : AreArmed code chunk m.handlers

-- the innermost handler that isn't spent is one of them, and those outside it are too
innermost_at : (P : List Handler → Type 0) (b : Bool) (x : Handler) (hs : List Handler) (h : Handler) (outer : List Handler) → (innermost hs ≡ Some (h, outer) → P (h ∷ outer))
    → P (x ∷ hs) → cond b (innermost hs) (Some (x, hs)) ≡ Some (h, outer) → P (h ∷ outer)
innermost_at P true x hs h outer ih a e = ih e
innermost_at P false x hs h outer ih a e = subst (λ (p : Handler × List Handler). P (p.0 ∷ p.1)) (same_Some (x, hs) (h, outer) e) a

pub innermost_kept : (P : List Handler → Type 0) → ((x : Handler) (hs : List Handler) → P (x ∷ hs) → P hs) → (hs : List Handler) (h : Handler) (outer : List Handler) → P hs
    → innermost hs ≡ Some (h, outer) → P (h ∷ outer)
innermost_kept P down [] h outer a e = absurd (none-some (h, outer) e)
innermost_kept P down (x ∷ hs) h outer a e = innermost_at P x.spent x hs h outer (λ k. innermost_kept P down hs h outer (down x hs a) k) a e

without_last_armed : (code : Code) (chunk : Span) (hs : List Handler) → AreArmed code chunk hs → AreArmed code chunk (without_last hs)
without_last_armed code chunk [] h = h
without_last_armed code chunk (x ∷ hs) h = h.1

handlers_armed : (code : Code) (chunk : Span) (op : Op) (m : Machine) (f : Flow) → flow_of op ≡ f → Passes code chunk m.address (counts m) op → IsTied code chunk m → AreArmed code chunk (handlers_behind f m)
handlers_armed code chunk op m (PushesHandler target) e p h = (record { place = m.address; op = op; reached = h.reached; passes = p; arms = e }, h.armed)
handlers_armed code chunk op m PopsHandler e p h = without_last_armed code chunk m.handlers h.armed
handlers_armed code chunk op m f e p h = h.armed

-- the catch edge of an instruction that arms a handler
catch_edge : (code : Code) (op : Op) (target : ℕ) (c : Counts) → flow_of op ≡ PushesHandler target → Contains (targets (switches code.layout) op) target × (record c { bases = armed c } ≡ after_jump code.setting op c)
catch_edge code op target c e = (
  subst (λ (f : Flow). Contains (targets_for (switches code.layout) f) target) (sym e) (Contains-push [] target),
  ap (λ (f : Flow). jump_for f (operands_after code.setting op c.operands) c) (sym e),
)

-- where an armed handler catches is reached
armed_reached : (code : Code) (chunk : Span) (h : Handler) (outer : List Handler) → IsArmed code chunk h outer
    → Reached code chunk h.target (record { operands = h.operands; iterators = h.iterators; bases = base_of h ∷ map base_of outer })
armed_reached code chunk h outer a = onward a.reached a.passes (inl (catch_edge code a.op h.target (armed_counts h outer) a.arms))

-- some state of a kept run
abbrev pub IsAt : Code → Span → ℕ → Counts → Type 0
IsAt code chunk at c = (m : Machine) × IsOnKeptRun code chunk m × (m.address ≡ at) × (counts m ≡ c)

module _ (code : Code) (chunk : Span) (d : ℕ) (typed : HasTyping code chunk d) where
  pub reached_passes : (at : ℕ) (c : Counts) → Reached code chunk at c → (op : Op) × Passes code chunk at c op
  reached_passes at c r = typed.1.met at c (typing_covers code chunk d typed.0 typed.1 at c r)

  pub found_passes : (m : Machine) (op : Op) → Reached code chunk m.address (counts m) → Finds code chunk m op → Passes code chunk m.address (counts m) op
  found_passes m op r f =
      let w = reached_passes m.address (counts m) r in
      subst (λ (o : Op). Passes code chunk m.address (counts m) o) (reads_once code.layout m.address w.0 op w.1.stands.is f.stands.is) w.1

  tied_step : (m n : Machine) → Steps code chunk m n → IsTied code chunk m → IsTied code chunk n
  tied_step m n step h =
      let e = flows_edge code step.op m.address (counts m) n.address step.counted step.edge in
      let k = edge_bases code step.op m.address (counts m) n.address step.counted e in
      let l = handlers_bases (flow_of step.op) m in
      let p = found_passes m step.op h.reached step.finds in
      let same : step.counted ≡ counts n = counts_ext step.counted (counts n) (sym step.operands) (sym step.iterators) (k ∙ (sym l ∙ ap (map base_of) (sym step.handlers))) in
      record {
        reached = subst (λ (c : Counts). Reached code chunk n.address c) same (onward h.reached p e);
        armed = subst (λ (hs : List Handler). AreArmed code chunk hs) (sym step.handlers) (handlers_armed code chunk step.op m (flow_of step.op) refl p h);
      }

  tied_catch : (m n : Machine) → (fault : Catches code chunk m n) → IsKept fault → IsTied code chunk m → IsTied code chunk n
  tied_catch m n fault kept h =
      let a = innermost_kept (AreArmed code chunk) (λ x hs q. q.1) m.handlers fault.handler fault.outer h.armed fault.caught in
      let eo : fault.handler.operands ≡ min fault.operands_found fault.handler.operands = min_right kept.operands in
      let ei : fault.handler.iterators ≡ min fault.iterators_found fault.handler.iterators = min_right kept.iterators in
      subst (λ (x : Machine). IsTied code chunk x) (sym fault.lands) (record {
        reached = subst (λ (c : Counts). Reached code chunk fault.handler.target c) (counts_ext _ _ eo ei refl) (armed_reached code chunk fault.handler fault.outer a.0);
        armed = (record { place = a.0.place; op = a.0.op; reached = a.0.reached; passes = a.0.passes; arms = a.0.arms }, a.1);
      })

  tied_move : (m n : Machine) → Moves code chunk m n → IsTied code chunk m → IsTied code chunk n
  tied_move m n (inl step) h = tied_step m n step h
  tied_move m n (inr catch) h = tied_catch m n catch.0 catch.1 h

  pub kept_run_tied : (earlier : List Machine) (m : Machine) → IsKeptRun code chunk m earlier → IsTied code chunk m
  kept_run_tied [] m e = subst (λ (x : Machine). IsTied code chunk x) (sym e) (record { reached = begin; armed = tt })
  kept_run_tied (before ∷ earlier) m r = tied_move before m r.0 (kept_run_tied earlier before r.1)

  -- each state of a kept run passes
  pub run_passes : (m : Machine) → IsOnKeptRun code chunk m → (op : Op) × Passes code chunk m.address (counts m) op
  run_passes m run = reached_passes m.address (counts m) (kept_run_tied run.0 m run.1).reached

  pub run_finds : (m : Machine) → IsOnKeptRun code chunk m → (op : Op) × Finds code chunk m op
  run_finds m run =
      let w = run_passes m run in
      (w.0, record { stands = w.1.stands; meets = w.1.meets })

  -- where a kept fault lands, the edge leads on which its handler was armed
  pub catch_lands : (m n : Machine) → IsOnKeptRun code chunk m → (fault : Catches code chunk m n) → IsKept fault
      → (armed : IsArmed code chunk fault.handler fault.outer) × (n.address ≡ fault.handler.target) × (counts n ≡ after_jump code.setting armed.op (armed_counts fault.handler fault.outer))
  catch_lands m n run fault kept =
      let h = kept_run_tied run.0 m run.1 in
      let a = innermost_kept (AreArmed code chunk) (λ x hs q. q.1) m.handlers fault.handler fault.outer h.armed fault.caught in
      let eo : min fault.operands_found fault.handler.operands ≡ fault.handler.operands = sym (min_right kept.operands) in
      let ei : min fault.iterators_found fault.handler.iterators ≡ fault.handler.iterators = sym (min_right kept.iterators) in
      (a.0, ap (λ (x : Machine). x.address) fault.lands, ap counts fault.lands ∙ (counts_ext _ _ eo ei refl ∙ (catch_edge code a.0.op fault.handler.target (armed_counts fault.handler fault.outer) a.0.arms).1))

  -- a step along an edge
  flow_step : (m : Machine) (op : Op) (b : ℕ) (d' : Counts) → Finds code chunk m op → Flows code op m.address (counts m) b d' → IsEdgeStep code chunk m b d'
  flow_step m op b d' p f =
      let n : Machine = record { address = b; operands = d'.operands; iterators = d'.iterators; handlers = handlers_after op m } in
      let k = edge_bases code op m.address (counts m) b d' (flows_edge code op m.address (counts m) b d' f) in
      record {
        after = n;
        step = record { op = op; counted = d'; finds = p; edge = f; operands = refl; iterators = refl; handlers = refl };
        address = refl;
        same = counts_ext (counts n) d' refl refl (handlers_bases (flow_of op) m ∙ sym k);
      }

  -- the catch edge: arming, and then a fault that finds the stacks whole
  catch_steps : (m : Machine) (op : Op) (target : ℕ) → flow_of op ≡ PushesHandler target → IsOnKeptRun code chunk m → Finds code chunk m op → IsEdgeCatch code chunk m target (after_jump code.setting op (counts m))
  catch_steps m op target e run p =
      let h : Handler = record { target = target; operands = m.operands; iterators = m.iterators; spent = false } in
      let after_arming : Machine = record { address = next code.layout m.address op; operands = m.operands; iterators = m.iterators; handlers = h ∷ m.handlers } in
      let falls : falls_through op ≡ true = ap falls_for e in
      let after : after_fall code.setting op (counts m) ≡ record (counts m) { bases = armed (counts m) } = ap (λ (f : Flow). fall_for f (operands_after code.setting op m.operands) (counts m)) e in
      let arming : Steps code chunk m after_arming = record {
        op = op;
        counted = after_fall code.setting op (counts m);
        finds = p;
        edge = inr (falls, refl, refl);
        operands = ap (λ (x : Counts). x.operands) (sym after);
        iterators = ap (λ (x : Counts). x.iterators) (sym after);
        handlers = ap (λ (f : Flow). handlers_behind f m) (sym e);
      } in
      let w = run_finds after_arming (m ∷ run.0, (inl arming, run.1)) in
      let n : Machine = record { address = target; operands = min m.operands m.operands; iterators = min m.iterators m.iterators; handlers = record h { spent = true } ∷ m.handlers } in
      let caught : Catches code chunk after_arming n = record {
        op = w.0;
        operands_found = m.operands;
        iterators_found = m.iterators;
        handler = h;
        outer = m.handlers;
        finds = w.1;
        operands_low = omega arith;
        operands_high = omega arith;
        iterators_low = omega arith;
        iterators_high = omega arith;
        caught = refl;
        lands = refl;
      } in
      record {
        armed = after_arming;
        arming = arming;
        after = n;
        fault = caught;
        whole_operands = refl;
        whole_iterators = refl;
        kept = record { operands = omega arith; iterators = omega arith };
        address = refl;
        same = counts_ext (counts n) (record (counts m) { bases = armed (counts m) }) (omega arith) (omega arith) refl ∙ (catch_edge code op target (counts m) e).1;
      }

  -- every written edge is one or two steps of a kept run
  pub edge_steps : (m : Machine) (op : Op) (b : ℕ) (d' : Counts) → IsOnKeptRun code chunk m → Finds code chunk m op → Edge code op m.address (counts m) b d' → IsEdgeStep code chunk m b d' ⊎ IsEdgeCatch code chunk m b d'
  edge_steps m op b d' run p (inr g) = inl (flow_step m op b d' p (inr g))
  edge_steps m op b d' run p (inl j) =
      elim (jumps_or_catches (flow_of op) (switches code.layout) b j.0) [
        | inl f ↦ inl (flow_step m op b d' p (inl (f, j)))
        | inr e ↦ inr (subst (λ (x : Counts). IsEdgeCatch code chunk m b x) (sym j.1) (catch_steps m op b e run p))
      ]

  edge_on_run : (m : Machine) (b : ℕ) (d' : Counts) → IsOnKeptRun code chunk m → IsEdgeStep code chunk m b d' ⊎ IsEdgeCatch code chunk m b d' → IsAt code chunk b d'
  edge_on_run m b d' run (inl s) = (s.after, (m ∷ run.0, (inl s.step, run.1)), s.address, s.same)
  edge_on_run m b d' run (inr s) = (s.after, (s.armed ∷ (m ∷ run.0), (inr (s.fault, s.kept), (inl s.arming, run.1))), s.address, s.same)

  -- what is reached is on a kept run
  reached_on_run : (at : ℕ) (c : Counts) → Reached code chunk at c → IsAt code chunk at c
  reached_on_run at c begin = (first chunk, ([], refl), refl, refl)
  reached_on_run b d' (onward {at} {c} {op} r p e) =
      let h = reached_on_run at c r in
      let q = subst (λ (x : Counts). Passes code chunk h.0.address x op) (sym h.3) (subst (λ (x : ℕ). Passes code chunk x c op) (sym h.2) p) in
      let k = subst (λ (x : Counts). Edge code op h.0.address x b d') (sym h.3) (subst (λ (x : ℕ). Edge code op x c b d') (sym h.2) e) in
      edge_on_run h.0 b d' h.1 (edge_steps h.0 op b d' h.1 (record { stands = q.stands; meets = q.meets }) k)

  -- counts are reached just where a kept run has them
  pub reached_is_run : (at : ℕ) (c : Counts) → Reached code chunk at c ↔ IsAt code chunk at c
  reached_is_run at c = (reached_on_run at c, λ h. subst (λ (x : Counts). Reached code chunk at x) h.3 (subst (λ (x : ℕ). Reached code chunk x (counts h.0)) h.2 (kept_run_tied h.1.0 h.0 h.1.1).reached))

-- a typing covers each state of a kept run, which has no more operands than the typing's bound
pub typing_covers_run : (code : Code) (chunk : Span) (d : ℕ) (typing : ℕ → Option Counts) → IsTyping code chunk d typing
    → (m : Machine) → IsOnKeptRun code chunk m → (typing m.address ≡ Some (counts m)) × (m.operands ≤ d)
typing_covers_run code chunk d typing h m run =
    let covered = typing_covers code chunk d typing h m.address (counts m) (kept_run_tied code chunk d (typing, h) run.0 m run.1).reached in
    (covered, h.shallow m.address (counts m) covered)
