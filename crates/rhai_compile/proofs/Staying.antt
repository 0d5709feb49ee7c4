-- What stays where code is written piece by piece.
use Rattle.std.proofs.Common.{◌≡◌, ℕ, ◌+◌, ◌-◌, ◌≤◌, Bool, true, List, Result, Ok, Err, Some, ap, subst, sym, ◌∙◌, arith}
use Rattle.std.specs.Prelude.{OnOk, length, slice_get}
use Rattle.std.specs.List.{list_all}
use Rattle.grain_base.specs.declared.pos.Site.{Site}
use Rattle.grain_builder.specs.Unfinished.{Level, Spot, StaysIn, Unfinished, level_with_handler, spot}
use Rattle.rhai_emit.proofs.LoopFacts.{leave_kept, stands_after}
use Rattle.rhai_emit.specs.Loops.{CanLeave}
use Rattle.rhai_emit.specs.Rules.{IsWritten, Stands}
use Rattle.rhai_emit.specs.declared.emitter.Emitter.{Emitter}

-- what stays in a list stays in one that is the same
pub stays_same : {A : Type 0} (xs ys zs : List A) → StaysIn xs ys → zs ≡ ys → StaysIn xs zs
stays_same {A} xs ys zs keeps same i x h = ap (λ (l : List A). slice_get l i) same ∙ keeps i x h

pub places_same : (test : Site → Bool) (ps qs : List Site) → qs ≡ ps → list_all test ps ≡ true → list_all test qs ≡ true
places_same test ps qs same h = ap (λ (l : List Site). list_all test l) same ∙ h

-- code that adds to the operands leaves what stands
pub stands_raised : (old new : Emitter) (n : ℕ) → IsWritten old new (old.code.operands + n) → Stands old → Stands new
stands_raised old new n written stands = stands_after old new (old.code.operands + n) written (let h = stands.floor in omega arith) stands

-- where the last label that is open is bound, code is written as if it had never been there
pub written_bound : {T E : Type 0} (old : Emitter) (code : Unfinished) (new : Emitter) (n label : ℕ) (r : Result T E)
    → code.operands ≡ n → code.level ≡ old.code.level → StaysIn old.code.labels code.labels → StaysIn old.code.outers code.outers
    → slice_get code.outers label ≡ Some old.code.pending → new.scope.around ≡ old.scope.around
    → OnOk r (slice_get code.outers label ≡ Some new.code.pending)
    → OnOk r (new.code.labels ≡ code.labels) → OnOk r (new.code.outers ≡ code.outers)
    → OnOk r (new.code.operands ≡ code.operands) → OnOk r (new.code.level ≡ code.level)
    → OnOk r (IsWritten old new n)
written_bound old code new n label (Ok x) operands level labels outers outer loop pending-2 labels-2 outers-2 operands-2 level-2 = record {
  operands = operands-2 ∙ operands;
  level = level-2 ∙ level;
  labels = stays_same old.code.labels code.labels new.code.labels labels labels-2;
  outers = stays_same old.code.outers code.outers new.code.outers outers outers-2;
  pending = cc;
  loop = loop;
}
written_bound old code new n label (Err e) operands level labels outers outer loop pending-2 labels-2 outers-2 operands-2 level-2 = tt

-- a condition that is given and tested leaves what stands
pub stands_tested : (old given new : Emitter) → IsWritten old given (old.code.operands + 1) → IsWritten given new (given.code.operands - 1) → Stands old → Stands new
stands_tested old given new condition tested stands =
    stands_after given new (given.code.operands - 1) tested
    (let floor = stands.floor in let more = condition.operands in let same = ap (λ (l : Level). l.floor) condition.level in omega arith)
    (stands_raised old given 1 condition stands)

-- code to which labels are added leaves what stands
pub stands_labelled : (old : Emitter) (code : Unfinished) → code.operands ≡ old.code.operands → code.level ≡ old.code.level → StaysIn old.code.labels code.labels → Stands old → Stands (record old { code = code })
stands_labelled old code operands level labels stands = record {
  floor = let floor = stands.floor in let same = ap (λ (l : Level). l.floor) level in omega arith;
  loop =
      subst (λ (l : Level). CanLeave old.scope.around l code.labels) (sym level)
      (leave_kept old.scope.around old.code.level old.code.labels code.labels labels stands.loop);
}

-- what is found at a label is found there later
pub found_there : (old new : List Spot) (label : ℕ) (one other : Spot) → StaysIn old new → slice_get old label ≡ Some one → one ≡ other → slice_get new label ≡ Some other
found_there old new label one other keeps found same = keeps label one found ∙ ap (λ (s : Spot). Some s) same

pub spot_same : (m n : ℕ) (k l : Level) → m ≡ n → k.iterators ≡ l.iterators → k.bases ≡ l.bases → k.home ≡ l.home → spot m k ≡ spot n l
spot_same m n k l operands iterators bases home = cc

pub floor_same : (m n : ℕ) (k l : Level) → m ≡ n → k ≡ l → l.floor ≤ n → k.floor ≤ m
floor_same m n k l operands level floor = let same = ap (λ (v : Level). v.floor) level in omega arith

-- where a label is bound, what was open when it was made is open again
pub open_again : (outers : List ℕ) (label old new : ℕ) → slice_get outers label ≡ Some old → slice_get outers label ≡ Some new → new ≡ old
open_again outers label old new made bound = cc

pub none_more : (m n : ℕ) → m ≡ n + 0 → m ≡ n
none_more m n is = omega arith

-- a condition that is tested is gone
pub condition_gone : (old given new : ℕ) → given ≡ old + 1 → new ≡ given - 1 → new ≡ old
condition_gone old given new one other = omega arith

pub room_given : (old new : Emitter) → IsWritten old new (old.code.operands + 1) → Stands old → new.code.level.floor + 1 ≤ new.code.operands
room_given old new written stands = let floor = stands.floor in let more = written.operands in let same = ap (λ (l : Level). l.floor) written.level in omega arith

pub one_more : (m n : ℕ) → m ≡ n - 0 + 1 → m ≡ n + 1
one_more m n is = omega arith

pub one_less : (m n : ℕ) → m ≡ n + 1 → n ≡ m - 1
one_less m n is = omega arith

pub handler_armed : (n : ℕ) (k l : Level) → l ≡ level_with_handler n k → 1 ≤ length l.bases
handler_armed n k l armed = let same = ap (λ (v : Level). length v.bases) armed in omega arith

-- code that is written, and then more
pub written_then : (old mid new : Emitter) (m n p : ℕ) → IsWritten old mid m → IsWritten mid new n → n ≡ p → IsWritten old new p
written_then old mid new m n p one other same = record {
  operands = other.operands ∙ same;
  level = other.level ∙ one.level;
  labels = λ i x h. other.labels i x (one.labels i x h);
  outers = λ i x h. other.outers i x (one.outers i x h);
  pending = other.pending ∙ one.pending;
  loop = other.loop ∙ one.loop;
}
