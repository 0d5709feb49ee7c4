-- What the walk's parts refuse is a flaw.
use Rattle.std.proofs.Common.{◌≡◌, ℕ, inr, List, IfErr, IfOk, OnOk, Ok, Err, Result, sym, subst}
use Rattle.grain_code.specs.Span.{Span}
use Rattle.grain_code.specs.Split.{Split}
use Rattle.grain_code.specs.declared.op.Op.{Op}
use Rattle.grain_rules.specs.Accepted.{IsFramed}
use Rattle.grain_rules.specs.Code.{Bytecode, coded}
use Rattle.grain_rules.specs.Capabilities.{Allows}
use Rattle.grain_rules.specs.Rows.{caps_of}
use Rattle.grain_rules.specs.Counts.{Counts, last_base}
use Rattle.grain_rules.specs.Effects.{Meets}
use Rattle.grain_verify.specs.Arrivals.{IsStartIn, RefusesTarget, RefusesState}
use Rattle.grain_rules.specs.Flaw.{ChunkFlaw, Comes, Leads}
use Rattle.grain_rules.specs.Sinking.{untouched}
use Rattle.grain_verify.specs.SinkingView.{RefusesSinking}
use Rattle.grain_rules.specs.Typing.{IsInChunk}
use Rattle.grain_rules.specs.declared.error.VerifyError.{VerifyError}
use Rattle.grain_rules.specs.declared.error.VerifyError.TheVariants as errors
use Rattle.grain_rules.proofs.ListedStarts.{start_listed}

-- what follows from each refusal follows from one
pub err_so : {A : Type 0} {P Q : VerifyError → Type 0} (r : Result A VerifyError) → ((e : VerifyError) → P e → Q e) → IfErr r P → IfErr r Q
err_so (Ok x) f h = tt
err_so (Err e) f h = f e h

-- and what follows from an answer, and from success
pub all_ok : {A : Type 0} {P Q R S : Type 0} {T U : A → Type 0} (r : Result A VerifyError) → OnOk r P → OnOk r Q → OnOk r R → OnOk r S → ((x : A) → P → Q → R → S → T x → U x) → IfOk r T → IfOk r U
all_ok (Ok x) p q r s f t = f x p q r s t
all_ok (Err e) p q r s f t = tt

-- and what follows from success
pub ok_so : {A : Type 0} {P Q : Type 0} (r : Result A VerifyError) → (P → Q) → OnOk r P → OnOk r Q
ok_so (Ok x) f h = f h
ok_so (Err e) f h = tt

pub start_in : (code : Bytecode) (starts : List ℕ) (chunk : Span) (at : ℕ) → Split code.bytes starts → IsStartIn starts chunk at → IsInChunk (coded code) chunk at
start_in code starts chunk at split h = record { entry = h.entry; end = h.end; place = record { starts = starts; split = split; here = h.start } }

comes_at : (code : Bytecode) (chunk : Span) (at a : ℕ) (op : Op) (c : Counts) → Comes code chunk at op c → a ≡ at → Comes code chunk a op c
comes_at code chunk at a op c comes e = subst (λ (x : ℕ). Comes code chunk x op c) (sym e) comes

pub refused_state : (code : Bytecode) (chunk : Span) (at : ℕ) (op : Op) (c : Counts) (e : VerifyError) → IsFramed code chunk → Comes code chunk at op c → RefusesState code op at c e → ChunkFlaw code chunk e
refused_state code chunk at op c (errors.MissingCaps artifact absent a) f comes (ea, eb, el, ne) = (f, eb, (op, c, comes_at code chunk at a op c comes ea, el, ne))
refused_state code chunk at op c (errors.Underflow a need have) f comes (ea, al, en, eh, l) = (f, (op, c, record { comes = comes_at code chunk at a op c comes ea; allowed = al }, en, eh, l))
refused_state code chunk at op c (errors.IteratorUnderflow a) f comes (ea, al, l) = (f, (op, c, record { comes = comes_at code chunk at a op c comes ea; allowed = al }, l))
refused_state code chunk at op c (errors.HandlerUnderflow a) f comes (ea, al, l) = (f, (op, c, record { comes = comes_at code chunk at a op c comes ea; allowed = al }, l))
refused_state code chunk at op c (errors.SinksBelowHandler a need have) f comes (ea, al, meets, sinks) = (f, (op, c, record { comes = comes_at code chunk at a op c comes ea; allowed = al }, meets, sinks))
refused_state code chunk at op c e f comes h = absurd h

-- the refusal of an instruction that sinks below the base of the last handler
pub refused_sinking : (code : Bytecode) (chunk : Span) (at : ℕ) (op : Op) (c : Counts) (e : VerifyError) → IsFramed code chunk → Comes code chunk at op c
    → Allows code.setting.caps (caps_of code.setting op) → Meets code.setting op c → RefusesSinking op at (last_base c.bases) (untouched code.setting op c) e
    → ChunkFlaw code chunk e
refused_sinking code chunk at op c (errors.SinksBelowHandler a need have) f comes allowed meets (ea, loud, short) =
    refused_state code chunk at op c (errors.SinksBelowHandler a need have) f comes (ea, allowed, meets, (loud, short))
refused_sinking code chunk at op c e f comes allowed meets h = absurd h

renamed : (code : Bytecode) (chunk : Span) (at a target t : ℕ) → Leads code chunk at target → a ≡ at → t ≡ target → Leads code chunk a t
renamed code chunk at a target t n e f = subst (λ (x : ℕ). Leads code chunk x t) (sym e) (subst (λ (x : ℕ). Leads code chunk at x) (sym f) n)

pub refused_target : (code : Bytecode) (starts : List ℕ) (chunk : Span) (at target : ℕ) (e : VerifyError) → Split code.bytes starts → IsFramed code chunk
    → Leads code chunk at target → RefusesTarget starts chunk at target e → ChunkFlaw code chunk e
refused_target code starts chunk at target (errors.JumpOutOfRange a t) split f n (ea, et, out) = (f, renamed code chunk at a target t n ea et, out)
refused_target code starts chunk at target (errors.JumpIntoAnInstruction a t) split f n (ea, et, low, high, un) =
    inr (f, renamed code chunk at a target t n ea et, low, high, λ s. un (start_listed code.bytes starts t split s))
refused_target code starts chunk at target e split f n h = absurd h
