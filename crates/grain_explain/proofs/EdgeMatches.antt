-- Whether edges lead to rows with their counts.
use Rattle.std.proofs.Common.{◌≡◌, inl, inr, ℕ, ◌+◌, ◌-◌, List, [], ◌∷◌, ◌++◌, sym, ap, subst, ◌∙◌, append_assoc, Some, Result, Ok, Err, OnOk, IfErr}
use Rattle.std.specs.List.{All, Contains}
use Rattle.std.proofs.lemmas.List.{append-nil}
use Rattle.std.proofs.lemmas.List.Elements.{All-append, All-contains, All-cons, All-nil, Contains-append_right}
use Rattle.grain_code.specs.InstructionTable.{width_of}
use Rattle.grain_code.specs.declared.op.Op.{Op}
use Rattle.grain_rules.specs.Code.{coded}
use Rattle.grain_rules.specs.Counts.{Counts}
use Rattle.grain_rules.specs.Effects.{Edge, after_fall, after_jump, falls_through, operands_after, targets}
use Rattle.grain_rules.specs.Flow.{Flow}
use Rattle.grain_rules.specs.FlowFields.{fall_for, falls_for, jump_for, targets_for}
use Rattle.grain_rules.specs.Rows.{flow_of}
use Rattle.grain_rules.specs.Setting.{Setting}
use Rattle.grain_rules.proofs.Splits.{in_head}
use Rattle.grain_rules.specs.EffectView.{flow_in}
use Rattle.grain_explain.specs.Certificate.{RowLacks, StandsInRow}
use Rattle.grain_explain.specs.Claimed.{AreMatched, Claimed, IsAstray, RefusesRows, falling_on, jumping, lack_named}
use Rattle.grain_explain.specs.Lacking.{DoesTo}
use Rattle.grain_explain.specs.OnEdges.{left_by}
use Rattle.grain_explain.specs.RowView.{counts_of, typing_of}
use Rattle.grain_rules.specs.declared.effect.Effect.{Effect}
use Rattle.grain_explain.specs.declared.error.TypingError.{TypingError}
use Rattle.grain_explain.specs.declared.needs.Lack.{Lack}
use Rattle.grain_explain.specs.declared.needs.Lack.TheVariants as lacks
use Rattle.grain_explain.specs.declared.row.LinkedBase.{LinkedBase}
use Rattle.grain_explain.specs.declared.row.Row.{Row}

-- some of these have been found to be so, in their order, and the others are left
pub record UpTo (P : ℕ → Type 0) (all left : List ℕ) : Type 0 where
  pub done : List ℕ
  pub in_order : done ++ left ≡ all
  pub each : All P done

pub none_done : {P : ℕ → Type 0} {all left : List ℕ} → left ≡ all → UpTo P all left
none_done {P} e = record { done = []; in_order = e; each = All-nil P }

pub one_done : {P : ℕ → Type 0} {all left ts : List ℕ} {x : ℕ} → left ≡ x ∷ ts → UpTo P all left → P x → UpTo P all ts
one_done {P} {all} {left} {ts} {x} e h p = record {
  done = h.done ++ x ∷ [];
  in_order = append_assoc h.done (x ∷ []) ts ∙ (ap (λ (ys : List ℕ). h.done ++ ys) (sym e) ∙ h.in_order);
  each = All-append P h.done (x ∷ []) h.each (All-cons P x [] p (All-nil P));
}

pub all_done : {P : ℕ → Type 0} {all left : List ℕ} → left ≡ [] → UpTo P all left → All P all
all_done {P} e h = subst (All P) (sym (append-nil h.done) ∙ (ap (λ (ys : List ℕ). h.done ++ ys) (sym e) ∙ h.in_order)) h.each

pub next_of : {P : ℕ → Type 0} {all left ts : List ℕ} {x : ℕ} → left ≡ x ∷ ts → UpTo P all left → Contains all x
next_of {P} {all} {left} {ts} {x} e h =
    subst (λ (ys : List ℕ). Contains ys x) (ap (λ (ys : List ℕ). h.done ++ ys) (sym e) ∙ h.in_order) (Contains-append_right h.done (x ∷ ts) x (in_head x ts))

-- what is left of the operands
pub left_known : (s : Setting) (op : Op) (e : Effect) (n : ℕ) → DoesTo s op e → left_by e n ≡ operands_after s op n
left_known s op e n d = ap (λ (x : ℕ × ℕ × ℕ). n - x.1 + x.2) d.numbers

module _ (s : Setting) (op : Op) (bases : List LinkedBase) (r : Row) (e : Effect) (d : DoesTo s op e) where
  pub jumping_known : jumping bases r e ≡ after_jump s op (counts_of bases r)
  jumping_known = ap (λ (f : Flow). jump_for f (left_by e r.operands) (counts_of bases r)) d.flow ∙ ap (λ n. jump_for (flow_of op) n (counts_of bases r)) (left_known s op e r.operands d)

  pub falling_known : falling_on bases r e ≡ after_fall s op (counts_of bases r)
  falling_known = ap (λ (f : Flow). fall_for f (left_by e r.operands) (counts_of bases r)) d.flow ∙ ap (λ n. fall_for (flow_of op) n (counts_of bases r)) (left_known s op e r.operands d)

-- what follows from success, and from each refusal
pub on_ok : {A E P Q : Type 0} (r : Result A E) → (P → Q) → OnOk r P → OnOk r Q
on_ok (Ok x) f h = f h
on_ok (Err e) f h = tt

pub both_ok : {A E P Q S : Type 0} (r : Result A E) → (P → Q → S) → OnOk r P → OnOk r Q → OnOk r S
both_ok (Ok x) f g h = f g h
both_ok (Err e) f g h = tt

pub on_err : {A E : Type 0} {P Q : E → Type 0} (r : Result A E) → ((e : E) → P e → Q e) → IfErr r P → IfErr r Q
on_err (Ok x) f h = tt
on_err (Err e) f h = f e h

module _ (g : Claimed) (r : Row) (e : Effect) (op : Op) (d : DoesTo g.code.setting op e) where
  targets_known : targets_for g.code.switches (flow_in e) ≡ targets g.code.switches op
  targets_known = ap (targets_for g.code.switches) d.flow

  falls_known : falls_for (flow_in e) ≡ falls_through op
  falls_known = ap falls_for d.flow

  -- each edge of a row leads to a row with its counts
  pub closed_by : AreMatched g r e (r.at + width_of op) → (b : ℕ) (c : Counts) → Edge (coded g.code) op r.at (counts_of g.bases r) b c → typing_of g.bases g.rows b ≡ Some c
  closed_by m b c (inl (named, is)) =
      let P : ℕ → Type 0 = λ t. typing_of g.bases g.rows t ≡ Some (jumping g.bases r e) in
      All-contains P (targets g.code.switches op) b (subst (All P) targets_known m.targets) named ∙ ap Some (jumping_known g.code.setting op g.bases r e d ∙ sym is)
  closed_by m b c (inr (goes, there, is)) =
      subst (λ n. typing_of g.bases g.rows n ≡ Some c) (sym there) (m.falls (falls_known ∙ goes) ∙ ap Some (falling_known g.code.setting op g.bases r e d ∙ sym is))

  -- one that doesn't is a flaw
  pub astray_flaw : (number : ℕ) (error : TypingError) → StandsInRow g.code g.rows number r op → IsAstray g number r e (r.at + width_of op) error → RefusesRows g error
  astray_flaw number error here h = subst (RefusesRows g) (sym h.is) (record {
    row = r;
    op = op;
    counts = h.counts;
    here = here;
    edge = elim h.edge [
      | inl j ↦ inl (subst (λ (ts : List ℕ). Contains ts h.at) targets_known j.0, j.1 ∙ jumping_known g.code.setting op g.bases r e d)
      | inr f ↦ inr (sym falls_known ∙ f.0, f.1, f.2 ∙ falling_known g.code.setting op g.bases r e d)
    ];
    astray = h.astray;
  })

-- a row whose instruction lacks something is one
pub lack_flaw : (g : Claimed) (number : ℕ) (lack : Lack) → RowLacks g.code g.bases g.rows number lack → RefusesRows g (lack_named number lack)
lack_flaw g number (lacks.Capabilities absent) h = h
lack_flaw g number (lacks.Operands need) h = h
lack_flaw g number lacks.Iterators h = h
lack_flaw g number lacks.Handlers h = h
lack_flaw g number (lacks.Reserve need have) h = h
