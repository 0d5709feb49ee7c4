use Rattle.std.proofs.Common.{◌≡◌, ◌⊎◌, ◌<◌, inl, inr, ap, sym, ◌∙◌, subst, ℕ, List, length, Some, true, refl, arith}
use Rattle.std.specs.List.{Contains}
use Rattle.grain_code.specs.Split.{Split}
use Rattle.grain_rules.specs.Code.{Bytecode}
use Rattle.grain_rules.specs.Flaw.{IsBadBound, is_empty, no_bound, outside}
use Rattle.grain_rules.specs.Layout.{IsBoundary, IsStart}
use Rattle.grain_rules.proofs.ListedStarts.{contains_place, listed_start, placed_contains, start_listed}
use Rattle.grain_rules.proofs.frame.check_frame.Goals as goal
use Rattle.grain_rules.proofs.frame.check_frame.Goals.{then-end-len-via-then-end-len, then-end-len-via-else-end-len+then-entry-end}
use Rattle.grain_rules.proofs.frame.check_frame.Goals.{else-end-len-2-via-then-end-len-2+else-not-contains, else-end-len-2-via-else-end-len-2}

pub returns-then-end-len-clause-err : goal.returns-then-end-len-clause-err
returns-then-end-len-clause-err c = λ (code : Bytecode) same.
    let chunk = c.args.chunk.now in
    let long : length code.bytes ≡ length c.args.code.now = ap length same in
    let end = c.end-end.ensures in
    let entry = c.entry-entry.ensures in
    let out : (length code.bytes < chunk.end) ⊎ (chunk.end < chunk.entry) = elim c.then-end-len.branch [
      | then-end-len-via-then-end-len w ↦ inl (let l = w.if-end-len.true in omega arith)
      | then-end-len-via-else-end-len+then-entry-end w ↦ inr (let l = w.if-entry-end.true in omega arith)
    ] in
    ((c.entry.ensures, c.end.ensures, sym long, out), outside out)

pub returns-then-entry-end-2-clause-err : goal.returns-then-entry-end-2-clause-err
returns-then-entry-end-2-clause-err c = λ (code : Bytecode) same.
    let chunk = c.args.chunk.now in
    let long : length code.bytes ≡ length c.args.code.now = ap length same in
    let end = c.end-end.ensures in
    let entry = c.entry-entry.ensures in
    let both = c.if-entry-end-2.true in
    let inside = c.if-end-len.false in
    let empty : chunk.entry ≡ chunk.end = omega arith in
    (inl (empty, omega arith), is_empty empty)

pub returns-in_default-clause-err : goal.returns-in_default-clause-err
returns-in_default-clause-err c = λ (code : Bytecode) same.
    let starts = c.args.starts.now.starts in
    let chunk = c.args.chunk.now in
    let split : Split code.bytes starts = subst (λ (bs : List ℕ). Split bs starts) (sym same) c.requires in
    let long : length code.bytes ≡ length c.args.code.now = ap length same in
    let end = c.end-end.ensures in
    let entry = c.entry-entry.ensures in
    let none : IsStart code.bytes chunk.entry → ⊥ = λ s. (
    let place = contains_place starts chunk.entry (start_listed code.bytes starts chunk.entry split s) in
    c.in_default.not-Some place.0 ((c.ordinal.ensures.place place.0).1 (place.1 ∙ ap (λ (n : ℕ). Some n) (sym entry)))
    ) in
    let bad : IsBadBound code chunk c.entry-in_default.result = inl (c.entry-in_default.ensures, none) in (
      inl (let l = c.if-end-len.false in omega arith, let a = c.if-entry-end.false in let b = c.if-entry-end-2.false in omega arith, entry, bad),
      no_bound bad,
    )

-- an address that isn't one of the starts is no boundary
not_listed : (bytes starts : List ℕ) (at : ℕ) → Split bytes starts → (Contains starts at → ⊥) → at < length bytes → IsBoundary bytes at → ⊥
not_listed bytes starts at split un l (inl s) = un (start_listed bytes starts at split s)
not_listed bytes starts at split un l (inr e) = absurd (omega arith)

pub returns-then-not-contains-clause-err : goal.returns-then-not-contains-clause-err
returns-then-not-contains-clause-err c = λ (code : Bytecode) same.
    let starts = c.args.starts.now.starts in
    let chunk = c.args.chunk.now in
    let split : Split code.bytes starts = subst (λ (bs : List ℕ). Split bs starts) (sym same) c.requires in
    let long : length code.bytes ≡ length c.args.code.now = ap length same in
    let entry = c.entry-entry.ensures in
    let end = c.end-end.ensures in
    let un : Contains starts chunk.end → ⊥ = λ h. (let t : c.contains.result ≡ true = c.contains.ensures.1 (subst (Contains starts) (sym end) h) in let f = c.if-not-contains.true in cc) in
    let here : Contains starts chunk.entry = subst (Contains starts) entry
    (placed_contains starts c.in-Some.ordinal c.entry-entry.result ((c.ordinal.ensures.place c.in-Some.ordinal).0 c.in-Some.is)) in
    let bad : IsBadBound code chunk c.end-then-not-contains.result = inr (
      c.end-then-not-contains.ensures,
      listed_start code.bytes starts chunk.entry split here,
      not_listed code.bytes starts chunk.end split un (let l = c.if-end-len-2.true in omega arith),
    ) in (
      inl (let l = c.if-end-len.false in omega arith, let a = c.if-entry-end.false in let b = c.if-entry-end-2.false in omega arith, entry, bad),
      no_bound bad,
    )

pub returns-clause-framed : goal.returns-clause-framed
returns-clause-framed c = λ (code : Bytecode) same.
    let starts = c.args.starts.now.starts in
    let chunk = c.args.chunk.now in
    let split : Split code.bytes starts = subst (λ (bs : List ℕ). Split bs starts) (sym same) c.requires in
    let long : length code.bytes ≡ length c.args.code.now = ap length same in
    let entry = c.entry-entry.ensures in
    let end = c.end-end.ensures in
    let here : Contains starts chunk.entry = subst (Contains starts) entry
    (placed_contains starts c.in-Some.ordinal c.entry-entry.result ((c.ordinal.ensures.place c.in-Some.ordinal).0 c.in-Some.is)) in
    record {
      ordered = let l = c.if-entry-end.false in omega arith;
      inside = let l = c.if-end-len.false in omega arith;
      entry = listed_start code.bytes starts chunk.entry split here;
      end = elim c.else-end-len-2.branch as (λ _. IsBoundary code.bytes chunk.end) [
        | else-end-len-2-via-then-end-len-2+else-not-contains w ↦ inl
            (listed_start code.bytes starts chunk.end split (subst (Contains starts) end (w.contains.ensures.0 (let f = w.if-not-contains.false in cc))))
        | else-end-len-2-via-else-end-len-2 w ↦ inr (let l = w.if-end-len-2.false in let m = c.if-end-len.false in omega arith)
      ];
    }
