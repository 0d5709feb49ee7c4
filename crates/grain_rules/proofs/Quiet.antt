-- In a chunk with a typing, only faults at quiet operations have to be kept.
use Rattle.std.proofs.Common.{◌≡◌, ℕ, inl, inr, Bool, true, false, List, [], ◌∷◌, map, refl, sym, subst, arith}
use Rattle.grain_code.specs.Span.{Span}
use Rattle.grain_code.specs.declared.op.Op.{Op}
use Rattle.grain_code.specs.declared.op.Op.TheVariants as ops
use Rattle.grain_code.specs.declared.op.Receiver.TheVariants as receiver
use Rattle.grain_rules.specs.Code.{Code}
use Rattle.grain_rules.specs.Counts.{Base, Counts, last_base, without_last}
use Rattle.grain_rules.specs.Flow.{Flow, PopsHandler, PushesHandler}
use Rattle.grain_rules.specs.FlowFields.{bases_for}
use Rattle.grain_rules.specs.Machine.{Handler, Machine, base_of, counts, Catches, IsKept, Moves, MovesKeptAtQuiet, IsKeptRun, IsOnKeptRun, IsRunKeptAtQuiet}
use Rattle.grain_rules.specs.Setting.{Setting}
use Rattle.grain_rules.specs.Sinking.{ReachesUpTo, Stays, untouched}
use Rattle.grain_rules.specs.Rows.{flow_of, is_quiet}
use Rattle.grain_rules.specs.Typing.{HasTyping, Reached, begin, onward}
use Rattle.grain_rules.proofs.Law.{edge_bases, found_passes, innermost_kept, kept_run_tied}

-- the stacks reach up to each of these bases
abbrev ReachUpToAll : Base → List Base → Type 0
ReachUpToAll stacks [] = Unit {0}
ReachUpToAll stacks (b ∷ bs) = ReachesUpTo b stacks × ReachUpToAll stacks bs

-- each base reaches up to those outside it
abbrev AreStacked : List Base → Type 0
AreStacked [] = Unit {0}
AreStacked (b ∷ bs) = ReachUpToAll b bs × AreStacked bs

reaches_over : (a b c : Base) → ReachesUpTo a b → ReachesUpTo b c → ReachesUpTo a c
reaches_over a b c h k = record {
  operands = (let l = h.operands in let m = k.operands in omega arith);
  iterators = (let l = h.iterators in let m = k.iterators in omega arith);
}

reach_over : (a b : Base) (bs : List Base) → ReachesUpTo a b → ReachUpToAll a bs → ReachUpToAll b bs
reach_over a b [] h k = k
reach_over a b (x ∷ bs) h k = (reaches_over x a b k.0 h, reach_over a b bs h k.1)

-- what reaches up to the last base reaches up to each
last_reached : (stacks : Base) (bs : List Base) → ReachesUpTo (last_base bs) stacks → AreStacked bs → ReachUpToAll stacks bs
last_reached stacks [] h k = tt
last_reached stacks (b ∷ bs) h k = (h, reach_over b stacks bs h k.0)

without_last_stacked : (bs : List Base) → AreStacked bs → AreStacked (without_last bs)
without_last_stacked [] h = h
without_last_stacked (b ∷ bs) h = h.1

-- an operation that arms a handler isn't quiet
arming_sounds : (op : Op) (target : ℕ) → flow_of op ≡ PushesHandler target → is_quiet op ≡ false
arming_sounds ops.Unit target e = absurd cc
arming_sounds (ops.Bool b) target e = absurd cc
arming_sounds ops.Pop target e = absurd cc
arming_sounds (ops.Rotate a) target e = absurd cc
arming_sounds (ops.UnwindTo depth) target e = absurd cc
arming_sounds ops.Return target e = absurd cc
arming_sounds ops.IterDrop target e = absurd cc
arming_sounds ops.PopHandler target e = absurd cc
arming_sounds (ops.CallRef n a (receiver.Local slot) capture) target e = refl
arming_sounds (ops.CallRef n a (receiver.Named m) capture) target e = refl
arming_sounds (ops.CallRef n a receiver.This capture) target e = refl
arming_sounds op target e = refl

-- what an operation leaves as it was is no more than there was
untouched_low : (s : Setting) (op : Op) (c : Counts) → ReachesUpTo (untouched s op c) (record { operands = c.operands; iterators = c.iterators })
untouched_low s op c = record { operands = omega arith; iterators = omega arith }

stacked_after : (s : Setting) (op : Op) (c : Counts) (f : Flow) → flow_of op ≡ f → Stays s op c → AreStacked c.bases → AreStacked (bases_for f c)
stacked_after s op c (PushesHandler target) e h k =
    let now : Base = record { operands = c.operands; iterators = c.iterators } in
    (last_reached now c.bases (reaches_over (last_base c.bases) (untouched s op c) now (h (arming_sounds op target e)) (untouched_low s op c)) k, k)
stacked_after s op c PopsHandler e h k = without_last_stacked c.bases k
stacked_after s op c f e h k = k

reached_stacked : (code : Code) (chunk : Span) (at : ℕ) (c : Counts) → Reached code chunk at c → AreStacked c.bases
reached_stacked code chunk at c begin = tt
reached_stacked code chunk b d (onward {at} {c} {op} r p e) =
    subst AreStacked (sym (edge_bases code op at c b d e)) (stacked_after code.setting op c (flow_of op) refl p.stays (reached_stacked code chunk at c r))

module _ (code : Code) (chunk : Span) (d : ℕ) (typed : HasTyping code chunk d) where
  -- a fault at an operation that isn't quiet is kept
  fault_kept : (m n : Machine) (fault : Catches code chunk m n) → Reached code chunk m.address (counts m) → is_quiet fault.op ≡ false → IsKept fault
  fault_kept m n fault r loud =
      let p = found_passes code chunk d typed m fault.op r fault.finds in
      let left = untouched code.setting fault.op (counts m) in
      let all = last_reached left (map base_of m.handlers) (p.stays loud) (reached_stacked code chunk m.address (counts m) r) in
      let caught = innermost_kept (λ (hs : List Handler). ReachUpToAll left (map base_of hs)) (λ x hs q. q.1) m.handlers fault.handler fault.outer all fault.caught in
      record {
        operands = (let a = caught.0.operands in let b = fault.operands_low in omega arith);
        iterators = (let a = caught.0.iterators in let b = fault.iterators_low in omega arith);
      }

  kept_at : (m n : Machine) (fault : Catches code chunk m n) (b : Bool) → is_quiet fault.op ≡ b → Reached code chunk m.address (counts m) → (is_quiet fault.op ≡ true → IsKept fault) → IsKept fault
  kept_at m n fault true e r h = h e
  kept_at m n fault false e r h = fault_kept m n fault r e

  move_kept : (m n : Machine) → Reached code chunk m.address (counts m) → MovesKeptAtQuiet code chunk m n → Moves code chunk m n
  move_kept m n r (inl step) = inl step
  move_kept m n r (inr fault) = inr (fault.0, kept_at m n fault.0 (is_quiet fault.0.op) refl r fault.1)

  -- a run whose faults at quiet operations are kept is a kept run
  pub run_kept : (earlier : List Machine) (m : Machine) → IsRunKeptAtQuiet code chunk m earlier → IsKeptRun code chunk m earlier
  run_kept [] m e = e
  run_kept (before ∷ earlier) m r =
      let k = run_kept earlier before r.1 in
      (move_kept before m (kept_run_tied code chunk d typed earlier before k).reached r.0, k)

  -- and so is a move from a state of a kept run
  pub move_from_run : (m n : Machine) → IsOnKeptRun code chunk m → MovesKeptAtQuiet code chunk m n → Moves code chunk m n
  move_from_run m n run move = move_kept m n (kept_run_tied code chunk d typed run.0 m run.1).reached move
