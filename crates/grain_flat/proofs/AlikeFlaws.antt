-- Code is refused alike beside pools that operations find alike.
use Rattle.std.proofs.Common.{◌≡◌, ℕ, inl, inr, List, ap, ◌∙◌}
use Rattle.grain_rules.specs.Rows.{Row, caps_of}
use Rattle.grain_base.specs.CapBits.{missing}
use Rattle.grain_rules.specs.Code.{Bytecode}
use Rattle.grain_rules.specs.Flaw.{ChunkFlaw, Comes, ComesAllowed, Conflicts, FallsOff, Leads}
use Rattle.grain_rules.specs.Setting.{Setting}
use Rattle.grain_code.specs.Span.{Span}
use Rattle.grain_rules.specs.declared.error.VerifyError.{VerifyError}
use Rattle.grain_rules.specs.declared.error.VerifyError.TheVariants as errors
use Rattle.grain_code.specs.declared.op.Op.{Op}
use Rattle.grain_rules.proofs.Alike.{Alike, allowed, code, deepest, framed, meets, passes, reached, sinks, stands, typed}

module _ (bytes : List ℕ) {s t : Setting} {u w : List (List ℕ)} (like : Alike s t u w) (chunk : Span) where
  abbrev one : Bytecode
  one = code bytes s u

  abbrev other : Bytecode
  other = code bytes t w

  falls_off : FallsOff one chunk → FallsOff other chunk
  falls_off h = record {
    at = h.at;
    counts = h.counts;
    op = h.op;
    reached = reached bytes like chunk h.reached;
    passes = passes bytes like chunk h.at h.counts h.op h.passes;
    goes = h.goes;
    end = h.end;
  }

  leads : (at target : ℕ) → Leads one chunk at target → Leads other chunk at target
  leads at target h = record {
    counts = h.counts;
    op = h.op;
    reached = reached bytes like chunk h.reached;
    passes = passes bytes like chunk at h.counts h.op h.passes;
    names = like.leads h.op target h.names;
  }

  comes : (at : ℕ) (op : Op) (c : _) → Comes one chunk at op c → Comes other chunk at op c
  comes at op c h = record { reached = reached bytes like chunk h.reached; stands = stands bytes like chunk at op h.stands }

  comes_allowed : (at : ℕ) (op : Op) (c : _) → ComesAllowed one chunk at op c → ComesAllowed other chunk at op c
  comes_allowed at op c h = record { comes = comes at op c h.comes; allowed = allowed bytes like chunk op h.allowed }

  conflicts : (at expected found : ℕ) → Conflicts one chunk at expected found → Conflicts other chunk at expected found
  conflicts at expected found h = record {
    one = h.one;
    other = h.other;
    one_reached = reached bytes like chunk h.one_reached;
    other_reached = reached bytes like chunk h.other_reached;
    unlike = h.unlike;
    expected_is = h.expected_is;
    found_is = h.found_is;
  }

  lacking : (op : Op) → missing s.caps (caps_of s op) ≡ missing t.caps (caps_of t op)
  lacking op = ap (λ n. missing n (caps_of s op)) like.caps ∙ ap (λ (r : Row). missing t.caps r.asks) (like.rows op)

  pub chunk_flaw : (e : VerifyError) → ChunkFlaw one chunk e → ChunkFlaw other chunk e
  chunk_flaw (errors.MissingCaps artifact absent at) h =
      (framed bytes like chunk h.0, h.1 ∙ like.caps, (h.2.0, h.2.1, comes at h.2.0 h.2.1 h.2.2, h.2.3 ∙ lacking h.2.0, h.2.4))
  chunk_flaw (errors.ChunkOutOfRange entry end len) h = h
  chunk_flaw (errors.JumpIntoAnInstruction at target) (inl h) = inl h
  chunk_flaw (errors.JumpIntoAnInstruction at target) (inr h) = inr (framed bytes like chunk h.0, leads at target h.1, h.2, h.3, h.4)
  chunk_flaw (errors.JumpOutOfRange at target) h = (framed bytes like chunk h.0, leads at target h.1, h.2)
  chunk_flaw (errors.DepthConflict at expected found) h =
      (framed bytes like chunk h.0, record { entry = h.1.entry; end = h.1.end; place = h.1.place }, conflicts at expected found h.2)
  chunk_flaw (errors.Underflow at need have) h =
      (framed bytes like chunk h.0, (h.1.0, h.1.1, comes_allowed at h.1.0 h.1.1 h.1.2, h.1.3 ∙ ap (λ (r : Row). r.needs) (like.rows h.1.0), h.1.4, h.1.5))
  chunk_flaw (errors.IteratorUnderflow at) h = (framed bytes like chunk h.0, (h.1.0, h.1.1, comes_allowed at h.1.0 h.1.1 h.1.2, h.1.3))
  chunk_flaw (errors.HandlerUnderflow at) h = (framed bytes like chunk h.0, (h.1.0, h.1.1, comes_allowed at h.1.0 h.1.1 h.1.2, h.1.3))
  chunk_flaw (errors.SinksBelowHandler at need have) h =
      (framed bytes like chunk h.0, (h.1.0, h.1.1, comes_allowed at h.1.0 h.1.1 h.1.2, meets bytes like chunk h.1.0 h.1.1 h.1.3, sinks bytes like chunk h.1.0 h.1.1 need have h.1.4))
  chunk_flaw errors.FallsOffTheEnd (inl h) = inl h
  chunk_flaw errors.FallsOffTheEnd (inr h) = inr (framed bytes like chunk h.0, falls_off h.1)
  chunk_flaw (errors.StackExceedsDeclared needed declared) h =
      (framed bytes like chunk h.0, h.1, h.2, deepest bytes like chunk needed h.3, (h.4.0, typed bytes like chunk h.4.0 h.4.1))
  chunk_flaw (errors.Undecodable at) h = h
  chunk_flaw (errors.TrailingBytes at len) h = h
  chunk_flaw (errors.BadIndex at what index) h = h
  chunk_flaw errors.OutOfMemory h = h
