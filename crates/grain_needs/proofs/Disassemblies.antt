-- A disassembly of the whole code has each instruction at each of its starts, and there is one disassembly.
use Rattle.std.proofs.Common.{◌≡◌, ℕ, zero, suc, ◌+◌, ◌-◌, ◌<◌, ◌≤◌, ◌&&◌, ◌⊎◌, inl, inr, Bool, true, cond, List, [], ◌∷◌, ◌++◌, length, take, drop, nat_le, refl, sym, ap, subst, ◌∙◌, arith}
use Rattle.std.specs.List.{AllByRecursion, Contains, flat_map}
use Rattle.std.proofs.Math.Seq.{take-add}
use Rattle.std.proofs.lemmas.Bool.{cases_lt}
use Rattle.std.proofs.lemmas.Bool.Decides.{nat_tests}
use Rattle.std.proofs.lemmas.List.{append-nil, drop-drop, drop_at}
use Rattle.std.proofs.lemmas.List.Concat.{flat_map-cons}
use Rattle.grain_code.specs.Disassembly.{IsDisassembly, placed_from}
use Rattle.grain_code.specs.InstructionTable.{spelling, width_of}
use Rattle.grain_code.specs.Span.{Span, body}
use Rattle.grain_code.specs.Split.{AreInstructions, Begins, IsInstruction, StandsAt, starts_from}
use Rattle.grain_code.specs.declared.op.Op.{Op}
use Rattle.grain_code.proofs.Instructions.{begins_none_nil, begins_spelling, spelling_width}
use Rattle.grain_code.proofs.Splits.{instr_is, one_front}
use Rattle.grain_rules.specs.Layout.{IsBoundary, IsStart}
use Rattle.grain_rules.proofs.OperationUniqueness.{stands_once}
use Rattle.grain_rules.proofs.Splits.{boundary_apart, in_cons, in_head, in_nil, in_tail, next_start, op_fits, start_op, width_pos}

-- two disassemblies of the same bytes are one
pub one_disassembly : (at : ℕ) (bytes : List ℕ) (items others : List (ℕ × Op)) → IsDisassembly at bytes items → IsDisassembly at bytes others → items ≡ others
one_disassembly at bytes items others h k =
    let same = one_front h.0 k.0 h.1 k.1 h.3 k.3 h.5 k.5 (sym h.4 ∙ k.4) in
    h.2 ∙ ap (placed_from at) same.0 ∙ sym k.2

after : (at x : ℕ) → at ≤ x → (at ≡ x) ⊎ (at < x)
after at x low = elim (cases_lt at x) [ inl above ↦ inr above | inr not ↦ inl (omega arith) ]

-- from a start to a later boundary: the instructions, and that each start between has its own among them
record Between (bytes : List ℕ) (at end : ℕ) : Type 0 where
  pub ops : List Op
  pub each : AllByRecursion IsInstruction ops
  pub whole : take (end - at) (drop at bytes) ≡ flat_map spelling ops
  pub has : (x : ℕ) (op : Op) → at ≤ x → x < end → IsStart bytes x → StandsAt bytes x op → Contains (placed_from at ops) (x, op)

between : (fuel : ℕ) (bytes : List ℕ) (at end : ℕ) → end ≤ at + fuel → IsStart bytes at → IsBoundary bytes end → at < end → end ≤ length bytes → Between bytes at end
between zero bytes at end enough s b l m = absurd (omega arith)
between (suc fuel) bytes at end enough s b l m =
    let found = (start_op bytes at s).1 in
    let op = found.0 in
    let w = width_of op in
    let p = width_pos op in
    let here : take w (drop at bytes) ≡ spelling op = found.1.spelled in
    let first : (x : ℕ) (o : Op) (rest : List (ℕ × Op)) → at ≡ x → StandsAt bytes x o → Contains ((at, op) ∷ rest) (x, o) =
    λ x o rest e i. subst (λ (item : ℕ × Op). Contains ((at, op) ∷ rest) item) (λ k. (e k, stands_once bytes x op o (subst (λ y. StandsAt bytes y op) e found.1) i k)) (in_head (at, op) rest) in
    elim (next_start bytes at end op s b found.1 l m) [
      | inl k ↦
          let more = between fuel bytes (at + w) end (let q = k.0 in omega arith) k.1 b k.0 m in
          let e : end - at ≡ w + (end - (at + w)) = let q = k.0 in omega arith in
          let cut : take (end - at) (drop at bytes) ≡ take w (drop at bytes) ++ take (end - (at + w)) (drop (at + w) bytes) = ap (λ n. take n (drop at bytes)) e
          ∙ (take-add w (end - (at + w)) (drop at bytes) ∙ ap (λ xs. take w (drop at bytes) ++ take (end - (at + w)) xs) (drop-drop w at bytes)) in
          record {
            ops = op ∷ more.ops;
            each = (instr_is (take w (drop at bytes)) op found.1, more.each);
            whole = cut ∙ (ap (λ xs. xs ++ take (end - (at + w)) (drop (at + w) bytes)) here ∙ (ap (λ xs. spelling op ++ xs) more.whole ∙ sym (flat_map-cons spelling op more.ops)));
            has = λ x o low high start i. elim (after at x low) [
              | inl same ↦ first x o (placed_from (at + w) more.ops) same i
              | inr above ↦
                  let far = boundary_apart bytes at x op s (inl start) found.1 above in
                  in_tail (at, op) (placed_from (at + w) more.ops) (x, o) (more.has x o far high start i)
            ];
          }
      | inr e ↦
          let long : end - at ≡ w = omega arith in
          record {
            ops = op ∷ [];
            each = (instr_is (take w (drop at bytes)) op found.1, tt);
            whole = ap (λ n. take n (drop at bytes)) long ∙ (here ∙ sym (flat_map-cons spelling op [] ∙ append-nil (spelling op)));
            has = λ x o low high start i. elim (after at x low) [
              | inl same ↦ first x o [] same i
              | inr above ↦ absurd (let far = boundary_apart bytes at x op s (inl start) found.1 above in omega arith)
            ];
          }
    ]

-- instructions from an address on have each of their starts, with its instruction
placed_has : (bytes : List ℕ) (at : ℕ) (ops : List Op) → at ≤ length bytes → AreInstructions (drop at bytes) ops
    → (x : ℕ) (op : Op) → Contains (starts_from at ops) x → StandsAt bytes x op → Contains (placed_from at ops) (x, op)
placed_has bytes at [] inside are x op starts i = absurd (in_nil x starts)
placed_has bytes at (o ∷ ops) inside are x op starts i =
    let cut : drop at bytes ≡ spelling o ++ flat_map spelling ops = are.whole ∙ flat_map-cons spelling o ops in
    let here : StandsAt bytes at o = subst (λ (b : List ℕ). Begins b o) (sym cut) (begins_spelling o (flat_map spelling ops) are.each.0) in
    let rest : drop (at + width_of o) bytes ≡ flat_map spelling ops = sym (drop-drop (width_of o) at bytes) ∙ ap (drop (width_of o)) cut
    ∙ drop_at (spelling o) (flat_map spelling ops) (width_of o) (spelling_width o) in
    elim (in_cons at (starts_from (at + width_of o) ops) x starts) [
      | inl e ↦ subst (λ (item : ℕ × Op). Contains ((at, o) ∷ placed_from (at + width_of o) ops) item) (λ k. (e k, stands_once bytes x o op (subst (λ y. StandsAt bytes y o) e here) i k)) (in_head (at, o) (placed_from (at + width_of o) ops))
      | inr later ↦ in_tail (at, o) (placed_from (at + width_of o) ops) (x, op) (placed_has bytes (at + width_of o) ops (op_fits bytes at o inside here) (record { each = are.each.1; whole = rest }) x op later i)
    ]

inside_test : (a b c : ℕ) → a ≤ b → b ≤ c → (nat_le a b && nat_le b c) ≡ true
inside_test a b c l m = grind (arith, nat_tests)

-- A chunk between a start and a boundary: each of its starts is in every disassembly of its body, with its instruction.
pub body_has : (bytes : List ℕ) (chunk : Span) (items : List (ℕ × Op)) → IsDisassembly chunk.entry (body chunk bytes) items
    → IsStart bytes chunk.entry → IsBoundary bytes chunk.end → chunk.end ≤ length bytes
    → (x : ℕ) (op : Op) → chunk.entry ≤ x → x < chunk.end → IsStart bytes x → StandsAt bytes x op → Contains items (x, op)
body_has bytes chunk items h s b inside x op low high start i =
    let all = between chunk.end bytes chunk.entry chunk.end (omega arith) s b (omega arith) inside in
    let cut : body chunk bytes ≡ take (chunk.end - chunk.entry)
    (drop chunk.entry bytes) = ap (λ (t : Bool). cond t (take (chunk.end - chunk.entry) (drop chunk.entry bytes)) []) (inside_test chunk.entry chunk.end (length bytes) (omega arith) inside) in
    let other : IsDisassembly chunk.entry (body chunk bytes) (placed_from chunk.entry all.ops) =
    (all.ops, [], refl, all.each, cut ∙ all.whole ∙ sym (append-nil (flat_map spelling all.ops)), begins_none_nil) in
    subst (λ (xs : List (ℕ × Op)). Contains xs (x, op)) (one_disassembly chunk.entry (body chunk bytes) (placed_from chunk.entry all.ops) items other h) (all.has x op low high start i)

pub whole_disassembly : (bytes : List ℕ) (ops : List Op) → AreInstructions bytes ops → IsDisassembly 0 bytes (placed_from 0 ops)
whole_disassembly bytes ops are = (ops, [], refl, are.each, are.whole ∙ sym (append-nil (flat_map spelling ops)), begins_none_nil)

-- Code that is whole instructions: each start is in every disassembly of it.
pub code_has : (bytes : List ℕ) (items : List (ℕ × Op)) → IsDisassembly 0 bytes items → (x : ℕ) (op : Op) → IsStart bytes x → StandsAt bytes x op → Contains items (x, op)
code_has bytes items h x op start i =
    let ops = start.split.0 in
    let are = start.split.1 in
    let other = whole_disassembly bytes ops are in
    let starts : Contains (starts_from 0 ops) x = subst (λ (xs : List ℕ). Contains xs x) start.split.2 start.here in
    subst (λ (xs : List (ℕ × Op)). Contains xs (x, op)) (one_disassembly 0 bytes (placed_from 0 ops) items other h) (placed_has bytes 0 ops (omega arith) are x op starts i)
