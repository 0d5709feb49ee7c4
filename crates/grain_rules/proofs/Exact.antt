-- A chunk with a typing has no flaw, and its kept runs are safe.
use Rattle.std.proofs.Common.{◌≡◌, ℕ, ◌<◌, ◌≤◌, inl, inr, Some, refl, sym, ap, subst, ◌∙◌, arith}
use Rattle.std.proofs.lemmas.Option.{same_Some}
use Rattle.grain_code.specs.Span.{Span}
use Rattle.grain_code.specs.declared.op.Op.{Op}
use Rattle.grain_rules.specs.Accepted.{ChunkPasses, IsSafe}
use Rattle.grain_rules.specs.Capabilities.{Allows}
use Rattle.grain_rules.specs.Rows.{caps_of}
use Rattle.grain_rules.specs.Code.{Bytecode, Code, coded}
use Rattle.grain_rules.specs.Counts.{Base, Counts, last_base, nothing}
use Rattle.grain_rules.specs.Effects.{Meets, after_fall, after_jump}
use Rattle.grain_rules.specs.Flaw.{ChunkFlaw, Comes, FallsOff, Leads}
use Rattle.grain_rules.specs.Machine.{counts}
use Rattle.grain_rules.specs.Sinking.{FallsShortOf, ReachesUpTo, Stays, untouched}
use Rattle.grain_rules.specs.Typing.{IsInChunk, HasTyping, Passes, Reached, IsDeepest}
use Rattle.grain_rules.specs.declared.error.VerifyError.{VerifyError}
use Rattle.grain_rules.specs.declared.error.VerifyError.TheVariants as errors
use Rattle.grain_rules.proofs.Law.{typing_covers, reached_is_run, run_passes}
use Rattle.grain_rules.proofs.OperationUniqueness.{stands_once}
use Rattle.grain_rules.proofs.Quiet.{run_kept}

module _ (code : Bytecode) (chunk : Span) (m : ℕ) (typed : HasTyping (coded code) chunk m) where
  covered : (at : ℕ) (c : Counts) → Reached (coded code) chunk at c → typed.0 at ≡ Some c
  covered at c r = typing_covers (coded code) chunk m typed.0 typed.1 at c r

  -- a named target is a start of the chunk
  named_inside : (at target : ℕ) → Leads code chunk at target → IsInChunk (coded code) chunk target
  named_inside at target n =
      let e = typed.1.closed at n.counts n.op target (after_jump code.setting n.op n.counts) (covered at n.counts n.reached) n.passes.stands.is (inl (n.names, refl)) in
      (typed.1.met target (after_jump code.setting n.op n.counts) e).1.stands.within

  falls_nowhere : FallsOff code chunk → ⊥
  falls_nowhere f =
      let e = typed.1.closed f.at f.counts f.op chunk.end (after_fall code.setting f.op f.counts) (covered f.at f.counts f.reached) f.passes.stands.is (inr (f.goes, sym f.end, refl)) in
      let h = (typed.1.met chunk.end (after_fall code.setting f.op f.counts) e).1.stands.within.end in
      omega arith

  passes_here : (at : ℕ) (op : Op) (c : Counts) → Comes code chunk at op c → Passes (coded code) chunk at c op
  passes_here at op c comes =
      let h = typed.1.met at c (covered at c comes.reached) in
      subst (λ (o : Op). Passes (coded code) chunk at c o) (stands_once code.bytes at h.0 op h.1.stands.is comes.stands.is) h.1

  met_here : (at : ℕ) (op : Op) (c : Counts) → Comes code chunk at op c → Meets code.setting op c
  met_here at op c comes = (passes_here at op c comes).meets

  allowed_here : (at : ℕ) (op : Op) (c : Counts) → Comes code chunk at op c → Allows code.setting.caps (caps_of code.setting op)
  allowed_here at op c comes = (passes_here at op c comes).allowed

  stays_here : (at : ℕ) (op : Op) (c : Counts) → Comes code chunk at op c → Stays code.setting op c
  stays_here at op c comes = (passes_here at op c comes).stays

  one_state : (at : ℕ) (c d : Counts) → Reached (coded code) chunk at c → Reached (coded code) chunk at d → c ≡ d
  one_state at c d r q = same_Some c d (sym (covered at c r) ∙ covered at d q)

-- stacks that reach up to a base don't fall short of it
reaches : (base stacks : Base) (need have : ℕ) → ReachesUpTo base stacks → FallsShortOf base stacks need have → ⊥
reaches base stacks need have r (inl (en, eh, l)) = let k = r.operands in omega arith
reaches base stacks need have r (inr (enough, en, eh, l)) = let k = r.iterators in omega arith

-- a chunk that has a typing holds something
pub typed_holds : (code : Bytecode) (chunk : Span) (m : ℕ) → HasTyping (coded code) chunk m → chunk.entry < chunk.end
typed_holds code chunk m t = (t.1.met chunk.entry nothing t.1.entry).1.stands.within.end

-- no flaw of a chunk that is framed and has a typing within its declared stack
pub no_flaw : (code : Bytecode) (chunk : Span) (e : VerifyError) → ChunkPasses code chunk → ChunkFlaw code chunk e → ⊥
no_flaw code chunk (errors.MissingCaps artifact absent at) p (f, a, (op, c, comes, e, ne)) = ne (e ∙ allowed_here code chunk chunk.max_stack p.typed at op c comes)
no_flaw code chunk (errors.ChunkOutOfRange entry end len) p (a, b, c, inl l) = let r = p.framed.inside in omega arith
no_flaw code chunk (errors.ChunkOutOfRange entry end len) p (a, b, c, inr l) = let r = p.framed.ordered in omega arith
no_flaw code chunk (errors.JumpIntoAnInstruction at target) p (inl (a, b, c, inl h)) = h.1 p.framed.entry
no_flaw code chunk (errors.JumpIntoAnInstruction at target) p (inl (a, b, c, inr h)) = h.2 p.framed.end
no_flaw code chunk (errors.JumpIntoAnInstruction at target) p (inr h) = h.4 (named_inside code chunk chunk.max_stack p.typed at target h.1).place
no_flaw code chunk (errors.JumpOutOfRange at target) p (g, n, inl l) = let h = (named_inside code chunk chunk.max_stack p.typed at target n).entry in omega arith
no_flaw code chunk (errors.JumpOutOfRange at target) p (g, n, inr l) = let h = (named_inside code chunk chunk.max_stack p.typed at target n).end in omega arith
no_flaw code chunk (errors.DepthConflict at expected found) p (f, i, c) = c.unlike (one_state code chunk chunk.max_stack p.typed at c.one c.other c.one_reached c.other_reached)
no_flaw code chunk (errors.Underflow at need have) p (f, (op, c, comes, en, eh, l)) = let h = (met_here code chunk chunk.max_stack p.typed at op c comes.comes).operands in omega arith
no_flaw code chunk (errors.IteratorUnderflow at) p (f, (op, c, comes, l)) = let h = (met_here code chunk chunk.max_stack p.typed at op c comes.comes).iterators in omega arith
no_flaw code chunk (errors.HandlerUnderflow at) p (f, (op, c, comes, l)) = let h = (met_here code chunk chunk.max_stack p.typed at op c comes.comes).handlers in omega arith
no_flaw code chunk (errors.SinksBelowHandler at need have) p (f, (op, c, comes, meets, (loud, short))) =
    reaches (last_base c.bases) (untouched code.setting op c) need have (stays_here code chunk chunk.max_stack p.typed at op c comes.comes loud) short
no_flaw code chunk errors.FallsOffTheEnd p (inl h) = let k = h.0 in let l = typed_holds code chunk chunk.max_stack p.typed in omega arith
no_flaw code chunk errors.FallsOffTheEnd p (inr h) = falls_nowhere code chunk chunk.max_stack p.typed h.1
no_flaw code chunk (errors.StackExceedsDeclared needed declared) p (f, e, l, d, w) =
    let a = d.attained in
    let h = p.typed.1.shallow a.0 a.1.0 (covered code chunk chunk.max_stack p.typed a.0 a.1.0 a.1.1) in
    let k = a.1.2 in
    omega arith
no_flaw code chunk (errors.Undecodable at) p h = elim h [ ]
no_flaw code chunk (errors.BadIndex at what index) p h = elim h [ ]
no_flaw code chunk (errors.TrailingBytes at len) p h = elim h [ ]
no_flaw code chunk errors.OutOfMemory p h = elim h [ ]

-- a typing within one stack is one within a larger
pub typing_within : (code : Code) (chunk : Span) (m n : ℕ) → m ≤ n → HasTyping code chunk m → HasTyping code chunk n
typing_within code chunk m n l t = (t.0, record { entry = t.1.entry; shallow = λ at s e. (let h = t.1.shallow at s e in omega arith); met = t.1.met; closed = t.1.closed })

-- what the greatest count says of kept runs
pub deepest_safe : (code : Bytecode) (chunk : Span) (n m : ℕ) → HasTyping (coded code) chunk m → IsDeepest (coded code) chunk n → IsSafe code chunk n
deepest_safe code chunk n m t d =
    let a = d.attained in
    let h = (reached_is_run (coded code) chunk m t a.0 a.1.0).0 a.1.1 in
    record {
      finds = λ x run. (let w = run_passes (coded code) chunk m t x run in (w.0, record { stands = w.1.stands; meets = w.1.meets }, w.1.allowed));
      most = λ x run. d.most x.address (counts x) ((reached_is_run (coded code) chunk m t x.address (counts x)).1 (x, run, refl, refl));
      attained = (h.0, h.1, ap (λ (c : Counts). c.operands) h.3 ∙ a.1.2);
      kept = λ x earlier run. run_kept (coded code) chunk m t earlier x run;
    }
