-- Where a loop can be left, it can be left from the code after it and around it.
use Rattle.std.proofs.Common.{◌≡◌, ℕ, ◌+◌, ◌-◌, ◌≤◌, List, [], ◌∷◌, ◌++◌, drop, length, Option, Some, None, refl, sym, ap, subst, ◌∙◌, arith}
use Rattle.std.specs.Prelude.{slice_get}
use Rattle.std.proofs.Math.Seq.{drop-append_seam}
use Rattle.std.proofs.lemmas.List.{length-append}
use Rattle.grain_rules.specs.Counts.{Base, last_base}
use Rattle.grain_builder.specs.Sound.{IsBased}
use Rattle.grain_builder.specs.Unfinished.{StaysIn, Level, SameLabels, Spot, spot, level_with_handler, level_without_handlers}
use Rattle.grain_builder.proofs.Bases.{last_least}
use Rattle.rhai_emit.specs.Loops.{CanLeave, IsBare, IsInside, count}
use Rattle.rhai_emit.specs.Rules.{IsWritten, Stands}
use Rattle.rhai_emit.specs.declared.emitter.Emitter.{Emitter}
use Rattle.rhai_emit.specs.declared.scope.Loop.{Loop}
use Rattle.rhai_emit.specs.declared.scope.Scope.{Scope}

-- with more labels
pub leave_kept : (around : Option Loop) (level : Level) (old new : List Spot) → StaysIn old new → CanLeave around level old → CanLeave around level new
leave_kept None level old new keeps can = tt
leave_kept (Some l) level old new keeps can = record {
  above = can.above;
  below = can.below;
  bases = can.bases;
  handlers = can.handlers;
  height = can.height;
  low = can.low;
  least = can.least;
  next = keeps l.next _ can.next;
  end = keeps l.end _ can.end;
}

-- where another handler is armed
pub leave_armed : (around : Option Loop) (level : Level) (labels : List Spot) (n : ℕ) → level.floor ≤ n → CanLeave around level labels → CanLeave around (level_with_handler n level) labels
leave_armed None level labels n floor can = tt
leave_armed (Some l) level labels n floor can = record {
  above = record { operands = n; iterators = level.iterators } ∷ can.above;
  below = can.below;
  bases = ap (λ (bs : List Base). record { operands = n; iterators = level.iterators } ∷ bs) can.bases;
  handlers = can.handlers;
  height = let h = can.height in omega arith;
  low = can.low;
  least = can.least;
  next = can.next;
  end = can.end;
}

-- code that was written leaves what stands
pub stands_after : (old new : Emitter) (n : ℕ) → IsWritten old new n → old.code.level.floor ≤ n → Stands old → Stands new
stands_after old new n written floor stands = record {
  floor = let e = written.operands in let l = ap (λ (v : Level). v.floor) written.level in omega arith;
  loop =
      subst (λ (around : Option Loop). CanLeave around new.code.level new.code.labels) (sym written.loop)
      (subst (λ (level : Level). CanLeave old.scope.around level new.code.labels) (sym written.level)
      (leave_kept old.scope.around old.code.level old.code.labels new.code.labels written.labels stands.loop));
}

-- a handler that is armed leaves what stands
pub stands_armed : (old new : Emitter) → new.code.operands ≡ old.code.operands → new.code.level ≡ level_with_handler old.code.operands old.code.level → SameLabels old.code new.code → new.scope ≡ old.scope → Stands old → Stands new
stands_armed old new operands level same scope stands = record {
  floor = let l = ap (λ (v : Level). v.floor) level in omega arith;
  loop =
      subst (λ (s : Scope). CanLeave s.around new.code.level new.code.labels) (sym scope)
      (subst (λ (v : Level). CanLeave old.scope.around v new.code.labels) (sym level)
      (subst (λ (ls : List Spot). CanLeave old.scope.around (level_with_handler old.code.operands old.code.level) ls) (sym same.labels)
      (leave_armed old.scope.around old.code.level old.code.labels old.code.operands stands.floor stands.loop)));
}

-- the body of a loop begins
pub inside_begun : (l : Loop) (level : Level) (labels : List Spot)
    → l.height ≡ level.floor → l.handlers ≡ length level.bases → IsBased level → level.least + count l.walks ≤ level.iterators
    → slice_get labels l.next ≡ Some (spot l.height level)
    → slice_get labels l.end ≡ Some (record { operands = l.height + count l.is_wanted; iterators = level.iterators - count l.walks; bases = level.bases; home = level.home })
    → IsInside l level labels
inside_begun l level labels height handlers based least next end = record {
  above = [];
  below = level.bases;
  bases = refl;
  handlers = sym handlers;
  height = omega arith;
  low = let h = based.operands in omega arith;
  least = let h = last_least level.least level.bases based.iterators in omega arith;
  next = next;
  end = end;
}

-- the handlers that were armed in the loop are disarmed
pub inside_bare : (l : Loop) (level : Level) (labels : List Spot) (n : ℕ) → n ≡ length level.bases - l.handlers → IsInside l level labels → IsBare l (level_without_handlers n level) labels
inside_bare l level labels n is inside =
    let few : n ≡ length inside.above = let e = ap (λ (bs : List Base). length bs) inside.bases in let f = length-append inside.above inside.below in let g = inside.handlers in omega arith in
    let left : drop n level.bases ≡ inside.below =
    ap (λ (bs : List Base). drop n bs) inside.bases ∙ (ap (λ m. drop m (inside.above ++ inside.below)) few ∙ drop-append_seam inside.above inside.below) in
    record {
      floor = subst (λ (bs : List Base). (last_base bs).operands ≤ l.height) (sym left) inside.low;
      least = subst (λ (bs : List Base). (last_base bs).iterators + count l.walks ≤ level.iterators) (sym left) inside.least;
      next = subst (λ (bs : List Base). slice_get labels l.next ≡ Some (record { operands = l.height; iterators = level.iterators; bases = bs; home = level.home })) (sym left) inside.next;
      end = subst (λ (bs : List Base). slice_get labels l.end ≡ Some (record { operands = l.height + count l.is_wanted; iterators = level.iterators - count l.walks; bases = bs; home = level.home })) (sym left) inside.end;
    }
