-- What a disassembly gives in all.
use Rattle.std.proofs.Common.{◌≡◌, ℕ, List, [], ◌∷◌, ◌++◌, take, drop, refl, sym, ap, subst, ◌∙◌, append_assoc}
use Rattle.std.specs.List.{flat_map}
use Rattle.std.specs.Iterator.{Drains}
use Rattle.std.proofs.lemmas.List.{take-append-drop}
use Rattle.std.proofs.lemmas.List.Concat.{flat_map-cons}
use Rattle.grain_code.specs.declared.op.Op.{Op}
use Rattle.grain_code.specs.InstructionTable.{spelling, width_of}
use Rattle.grain_code.specs.Split.{BeginsNone}
use Rattle.grain_code.specs.Unread.{Unread}
use Rattle.grain_code.specs.Disassembly.{StepsOn, placed_from, IsDisassembly}
use Rattle.grain_code.proofs.Splits.{instr_is}

pub drained : (s : Unread) (items : List (ℕ × Op)) → Drains StepsOn s items → IsDisassembly s.at s.bytes items
drained s [] d =
    let none : BeginsNone d.1.0.bytes = d.1.2.0 in
    ([], s.bytes, refl, tt, refl, subst (λ (u : Unread). BeginsNone u.bytes) (sym d.1.1) none)
drained s ((at, op) ∷ items) d =
    let w = width_of op in
    let step = d.1.1.1 in
    let more = drained d.1.1.0 items (d.0, (d.1.0, d.1.1.2, d.1.2)) in
    let behind : drop w s.bytes ≡ flat_map spelling more.0 ++ more.1 = ap (λ (u : Unread). u.bytes) (sym step.2) ∙ more.4 in
    let whole : s.bytes ≡ flat_map spelling (op ∷ more.0) ++ more.1 =
    sym (take-append-drop w s.bytes) ∙ ap (λ b. b ++ drop w s.bytes) step.1.spelled ∙ ap (λ b. spelling op ++ b) behind
    ∙ sym (append_assoc (spelling op) (flat_map spelling more.0) more.1) ∙ ap (λ b. b ++ more.1) (sym (flat_map-cons spelling op more.0)) in
    let placed : (at, op) ∷ items ≡ placed_from s.at (op ∷ more.0) =
    ap (λ n. (n, op) ∷ items) step.0 ∙ ap (λ xs. (s.at, op) ∷ xs) (more.2 ∙ ap (λ (u : Unread). placed_from u.at more.0) step.2) in
    (op ∷ more.0, more.1, placed, (instr_is (take w s.bytes) op step.1, more.3), whole, more.5)
