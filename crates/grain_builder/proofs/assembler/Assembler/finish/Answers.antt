use Rattle.std.proofs.Common.{◌≡◌, ◌≤◌, ℕ, List, length, map, sym, subst, ap, ◌∙◌}
use Rattle.std.proofs.lemmas.List.{length-map}
use Rattle.grain_code.specs.declared.op.Op.{Op}
use Rattle.grain_rules.specs.ByIndex.{IsCut, LeadWithin, code_by_index}
use Rattle.std.specs.List.{All}
use Rattle.grain_rules.specs.Typing.{HasTyping}
use Rattle.grain_builder.specs.Assembled.{workings_of, label_target, op_in, place_in, targets_of}
use Rattle.grain_builder.specs.Finished.{LeadAmong}
use Rattle.grain_builder.specs.declared.assembler.Label.{Label}
use Rattle.grain_builder.specs.declared.assembler.PlacedOp.{PlacedOp}
use Rattle.grain_base.specs.declared.pos.Site.{Site}
use Rattle.grain_builder.specs.declared.assembler.TableTargets.{TableTargets}
use Rattle.grain_builder.specs.Resolved.{resolved_op, resolved_tables}
use Rattle.grain_builder.specs.Sound.{Workings}
use Rattle.grain_builder.specs.Unfinished.{Unfinished}
use Rattle.grain_builder.proofs.Typings.{are_cuts, lead_within, typed}
use Rattle.grain_builder.proofs.assembler.Assembler.finish.Goals as goal
use Rattle.grain_builder.proofs.assembler.Assembler.finish.Goals.{After-drop-self-inside-5}

abbrev k : After-drop-self-inside-5 → Workings
k c = workings_of c.self.inside

closed : (c : After-drop-self-inside-5) → (k c).pending ≡ 0
closed c = subst (λ (w : Unfinished). w.pending ≡ 0) (sym c.self.view_is) c.requires.closed

targets : (c : After-drop-self-inside-5) → c.in_ok-targets.targets.items ≡ (k c).targets
targets c = c.in_ok-targets.ensures ∙ ap (λ (ls : List Label). map label_target ls) c.deref.ensures.value

listed : (c : After-drop-self-inside-5) → c.in_ok-ops.ops.items ≡ map (resolved_op (k c).targets) (k c).ops
listed c = c.in_ok-ops.ensures ∙ (ap (λ (ps : List ℕ). map (resolved_op ps) (map op_in c.deref-4.result.now)) (c.deref-5.ensures.value ∙ targets c) ∙ ap (λ (xs : List PlacedOp). map (resolved_op (k c).targets) (map op_in xs)) c.deref-4.ensures.value)

tables : (c : After-drop-self-inside-5) → map targets_of c.in_ok-tables.tables.items ≡ resolved_tables (k c).targets (k c).tables
tables c = c.in_ok-tables.ensures ∙ (ap (λ (ps : List ℕ). resolved_tables ps (map targets_of c.deref-2.result.now)) (c.deref-3.ensures.value ∙ targets c) ∙ ap (λ (ts : List TableTargets). resolved_tables (k c).targets (map targets_of ts)) c.deref-2.ensures.value)

many : (c : After-drop-self-inside-5) → length c.in_ok-ops.ops.items ≡ length (k c).ops
many c = ap (λ (xs : List Op). length xs) (listed c) ∙ length-map (k c).ops (resolved_op (k c).targets)

pub returns-clause-complete : goal.returns-clause-complete
returns-clause-complete c = record {
  typed = λ s leads j cut chains allowed among e.
      subst (λ (xs : List Op). HasTyping (code_by_index s xs leads) cut cut.max_stack) (sym (listed c))
      (typed (k c) c.self.invariant (closed c) s leads chains allowed (subst (LeadAmong leads) (tables c) among) cut (c.self.invariant.cuts j cut e).0);
  cuts = subst (λ (n : ℕ). All (IsCut n) (k c).cuts) (sym (many c)) (are_cuts (k c) c.self.invariant (closed c));
  some = c.self.invariant.ended (subst (λ (w : Unfinished). 1 ≤ w.level.home) (sym c.self.view_is) c.requires.ended);
  leads =
      subst (λ (n : ℕ). LeadWithin n (map targets_of c.in_ok-tables.tables.items)) (sym (many c))
      (subst (LeadWithin (length (k c).ops)) (sym (tables c)) (lead_within (k c) c.self.invariant (closed c)));
  placed =
      ap (λ (ps : List Site). length ps) (c.in_ok-places.ensures ∙ ap (λ (xs : List PlacedOp). map place_in xs) c.deref-6.ensures.value)
      ∙ length-map c.self.inside.ops.items place_in ∙ sym (length-map c.self.inside.ops.items op_in) ∙ sym (many c);
}
