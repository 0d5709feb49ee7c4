-- The body of a chunk that passes is whole instructions, and its switches lead to starts that the typing covers.
use Rattle.std.proofs.Common.{◌≡◌, ℕ, suc, zero, ◌+◌, ◌-◌, ◌<◌, ◌≤◌, ◌&&◌, inl, inr, Bool, true, List, [], ◌∷◌, ◌++◌, cond, length, take, drop, get_or, nat_le, Option, Some, refl, sym, ap, subst, ◌∙◌, arith}
use Rattle.std.specs.List.{Contains}
use Rattle.std.proofs.Math.Seq.{take-add}
use Rattle.std.proofs.lemmas.Bool.Decides.{nat_tests}
use Rattle.std.proofs.lemmas.List.{append-nil, drop-drop}
use Rattle.std.proofs.lemmas.List.Concat.{flat_map-cons}
use Rattle.grain_base.specs.Content.{Content}
use Rattle.grain_pools.specs.Dispatch.{Arms, dispatched, arm_targets}
use Rattle.grain_code.specs.Span.{Span, body}
use Rattle.grain_code.specs.Split.{AreInstructions}
use Rattle.grain_code.specs.InstructionTable.{spelling, width_of}
use Rattle.grain_code.specs.declared.op.Op.{Op}
use Rattle.grain_code.specs.declared.op.Op.TheVariants as ops
use Rattle.grain_pools.proofs.SwitchTargets.{dispatched_among}
use Rattle.grain_code.proofs.Splits.{instr_is}
use Rattle.grain_rules.specs.Accepted.{ChunkPasses}
use Rattle.grain_rules.specs.Code.{Bytecode, coded}
use Rattle.grain_rules.specs.Counts.{Counts}
use Rattle.grain_rules.specs.Effects.{after_jump}
use Rattle.grain_rules.specs.Layout.{IsStart, IsBoundary}
use Rattle.grain_rules.specs.Machine.{Machine, Finds, IsOnKeptRun, counts}
use Rattle.grain_rules.specs.Typing.{IsInChunk, IsTyping}
use Rattle.grain_rules.proofs.Law.{typing_covers, kept_run_tied}
use Rattle.grain_rules.proofs.Splits.{next_start, start_op, width_pos}

-- from a start to a boundary behind it, the bytes are instructions
between : (fuel : ℕ) (bytes : List ℕ) (at end : ℕ) → end ≤ at + fuel → IsStart bytes at → IsBoundary bytes end → at < end → end ≤ length bytes → (all : List Op) × AreInstructions (take (end - at) (drop at bytes)) all
between zero bytes at end enough s b l m = absurd (omega arith)
between (suc fuel) bytes at end enough s b l m =
    let found = (start_op bytes at s).1 in
    let op = found.0 in
    let w = width_of op in
    let p = width_pos op in
    let here : take w (drop at bytes) ≡ spelling op = found.1.spelled in
    elim (next_start bytes at end op s b found.1 l m) [
      | inl k ↦
          let more = between fuel bytes (at + w) end (let q = k.0 in omega arith) k.1 b k.0 m in
          let e : end - at ≡ w + (end - (at + w)) = let q = k.0 in omega arith in
          let cut : take (end - at) (drop at bytes) ≡ take w (drop at bytes) ++ take (end - (at + w)) (drop (at + w) bytes) = ap (λ n. take n (drop at bytes)) e
          ∙ (take-add w (end - (at + w)) (drop at bytes) ∙ ap (λ xs. take w (drop at bytes) ++ take (end - (at + w)) xs) (drop-drop w at bytes)) in (
            op ∷ more.0,
            record {
              each = (instr_is (take w (drop at bytes)) op found.1, more.1.each);
              whole = cut
                  ∙ (ap (λ xs. xs ++ take (end - (at + w)) (drop (at + w) bytes)) here ∙ (ap (λ xs. spelling op ++ xs) more.1.whole ∙ sym (flat_map-cons spelling op more.0)));
            },
          )
      | inr e ↦
          let long : end - at ≡ w = omega arith in
          (op ∷ [], record { each = (instr_is (take w (drop at bytes)) op found.1, tt); whole = ap (λ n. take n (drop at bytes)) long ∙ (here ∙ sym (flat_map-cons spelling op [] ∙ append-nil (spelling op))) })
    ]

inside_test : (a b c : ℕ) → a ≤ b → b ≤ c → (nat_le a b && nat_le b c) ≡ true
inside_test a b c l m = grind (arith, nat_tests)

-- the body of a chunk that passes is instructions
pub body_whole : (code : Bytecode) (chunk : Span) → ChunkPasses code chunk → (all : List Op) × AreInstructions (body chunk code.bytes) all
body_whole code chunk p =
    let h = (p.typed.1.met chunk.entry _ p.typed.1.entry).1.stands.within in
    let f = p.framed in
    let cut : body chunk code.bytes ≡ take (chunk.end - chunk.entry)
    (drop chunk.entry code.bytes) = ap (λ (b : Bool). cond b (take (chunk.end - chunk.entry) (drop chunk.entry code.bytes)) []) (inside_test chunk.entry chunk.end (length code.bytes) f.ordered f.inside) in
    let all = between chunk.end code.bytes chunk.entry chunk.end (omega arith) f.entry f.end h.end f.inside in
    (all.0, subst (λ (b : List ℕ). AreInstructions b all.0) (sym cut) all.1)

-- where a switch leads that a kept run meets, the typing covers a place of the chunk
pub switch_inside : (code : Bytecode) (chunk : Span) (m : ℕ) (typing : ℕ → Option Counts) → IsTyping (coded code) chunk m typing → (x : Machine) → IsOnKeptRun (coded code) chunk x
    → (w : ℕ) → Finds (coded code) chunk x (ops.Switch w) → (t : Arms) (subject : Content) → get_or code.switches w [] ≡ arm_targets t
    → IsInChunk (coded code) chunk (dispatched t subject) × ((c : Counts) × (typing (dispatched t subject) ≡ Some c))
switch_inside code chunk m typing h x run w f t subject e =
    let reached = (kept_run_tied (coded code) chunk m (typing, h) run.0 x run.1).reached in
    let covered = typing_covers (coded code) chunk m typing h x.address (counts x) reached in
    let among = subst (λ (ts : List ℕ). Contains ts (dispatched t subject)) (sym e) (dispatched_among t subject) in
    let c = after_jump code.setting (ops.Switch w) (counts x) in
    let there = h.closed x.address (counts x) (ops.Switch w) (dispatched t subject) c covered f.stands.is (inl (among, refl)) in
    ((h.met (dispatched t subject) c there).1.stands.within, (c, there))
