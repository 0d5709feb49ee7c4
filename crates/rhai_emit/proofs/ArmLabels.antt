-- Labels of arms.
use Rattle.std.proofs.Common.{◌≡◌, ℕ, ◌+◌, ◌≤◌, inl, inr, List, Some, ap, sym, subst, ◌∙◌, arith}
use Rattle.std.specs.Prelude.{slice_get}
use Rattle.std.specs.List.{Contains}
use Rattle.std.proofs.lemmas.Bool.{cases_lt}
use Rattle.std.proofs.lemmas.List.Elements.{All-contains, Contains-push_cases}
use Rattle.grain_builder.specs.Unfinished.{StaysIn, Level, Unfinished, spot}
use Rattle.grain_builder.specs.Assembled.{targets_of}
use Rattle.grain_builder.specs.declared.assembler.TableTargets.{TableTargets}
use Rattle.rhai_emit.specs.Switches.{AreArms, IsArm, LeadToArms}
use Rattle.rhai_emit.specs.declared.dispatch.Labels.{Labels}

-- what is found at some entries up to one, and at the next, is found at all of these
pub one_more : {A : Type 0} (f : ℕ → A) (xs ys : List A) (low : ℕ → Type 0) (n m : ℕ) → StaysIn xs ys → ((k : ℕ) → low k → k ≤ n → slice_get xs k ≡ Some (f k)) → m ≡ n + 1 → slice_get ys m ≡ Some (f m) → (k : ℕ) → low k → k ≤ m → slice_get ys k ≡ Some (f k)
one_more {A} f xs ys low n m keeps have is here k above below = elim (cases_lt k m) [
  | inl less ↦ keeps k (f k) (have k above (omega arith))
  | inr not ↦ let same : m ≡ k = omega arith in subst (λ (j : ℕ). slice_get ys j ≡ Some (f j)) same here
]

-- they stay what they are while code is written
pub arms_after : (l : Labels) (n : ℕ) (old new : Unfinished) → AreArms l n old → new.level ≡ old.level → StaysIn old.labels new.labels → StaysIn old.outers new.outers → AreArms l n new
arms_after l n old new arms level labels outers = record {
  ordered = arms.ordered;
  arms = λ label low high. labels label _ (arms.arms label low high) ∙ ap (λ (v : Level). Some (spot n v)) (sym level);
  outers = λ label low high. outers label label (arms.outers label low high);
  last = outers l.none (l.end + 1) arms.last;
}

-- what leads to them finds what is found there
pub lead_to_arms : (l : Labels) (n : ℕ) (code : Unfinished) (t : TableTargets) → AreArms l n code → LeadToArms l t → (label : ℕ) → Contains (targets_of t) label → slice_get code.labels label ≡ Some (spot n code.level)
lead_to_arms l n code t arms within label has = elim (Contains-push_cases t.cases.items t.default label has) [
  | inl case ↦ let arm = All-contains (IsArm l) t.cases.items label within.cases case in arms.arms label arm.0 arm.1
  | inr is ↦ subst (λ (x : ℕ). slice_get code.labels x ≡ Some (spot n code.level)) is (arms.arms t.default within.default.0 within.default.1)
]
