-- A typing whose lists of bases are replaced by their lengths is a typing by depth.
use Rattle.std.proofs.Common.{◌≡◌, ℕ, ◌-◌, inl, inr, List, [], ◌∷◌, length, Option, Some, None, option_map, refl, sym, ap, subst, ◌∙◌, arith}
use Rattle.std.proofs.lemmas.Option.{same_Some, none-some}
use Rattle.grain_code.specs.Span.{Span}
use Rattle.grain_code.specs.declared.op.Op.{Op}
use Rattle.grain_rules.specs.Code.{Code}
use Rattle.grain_rules.specs.Counts.{Base, Counts, without_last}
use Rattle.grain_rules.specs.Depths.{DepthEdge, Depths, IsDepthTyping, PassesByDepth, depths_after_fall, depths_after_jump, depths_of}
use Rattle.grain_rules.specs.Effects.{after_fall, after_jump, operands_after}
use Rattle.grain_rules.specs.Flow.{Flow, PopsHandler, PushesHandler}
use Rattle.grain_rules.specs.FlowFields.{fall_for, jump_for}
use Rattle.grain_rules.specs.Rows.{flow_of}
use Rattle.grain_rules.specs.Layout.{Reads}
use Rattle.grain_rules.specs.Typing.{IsTyping}

depths_ext : (d e : Depths) → d.operands ≡ e.operands → d.iterators ≡ e.iterators → d.handlers ≡ e.handlers → d ≡ e
depths_ext d e x y z = λ i. record { operands = x i; iterators = y i; handlers = z i }

length-without_last : (bs : List Base) → length (without_last bs) ≡ length bs - 1
length-without_last [] = omega arith
length-without_last (b ∷ bs) = omega arith

jump_depths : (f : Flow) (left : ℕ) (c : Counts) → depths_of (jump_for f left c) ≡ depths_after_jump f left (depths_of c)
jump_depths (PushesHandler target) left c = depths_ext _ _ refl refl (omega arith)
jump_depths f left c = refl

fall_depths : (f : Flow) (left : ℕ) (c : Counts) → depths_of (fall_for f left c) ≡ depths_after_fall f left (depths_of c)
fall_depths (PushesHandler target) left c = depths_ext _ _ refl refl (omega arith)
fall_depths PopsHandler left c = depths_ext _ _ refl refl (length-without_last c.bases)
fall_depths f left c = refl

counts_there : (o : Option Counts) (d : Depths) → option_map depths_of o ≡ Some d → (c : Counts) × (o ≡ Some c) × (depths_of c ≡ d)
counts_there None d e = absurd (none-some d e)
counts_there (Some c) d e = (c, refl, same_Some (depths_of c) d e)

module _ (code : Code) (chunk : Span) (m : ℕ) (typing : ℕ → Option Counts) (typed : IsTyping code chunk m typing) where
  -- where an edge of depths leads
  closed_by_depth : (at : ℕ) (c : Counts) (op : Op) (b : ℕ) (e : Depths) → typing at ≡ Some c → Reads code.layout at op → DepthEdge code op at (depths_of c) b e → option_map depths_of (typing b) ≡ Some e
  closed_by_depth at c op b e is reads (inl jump) =
      let there = typed.closed at c op b (after_jump code.setting op c) is reads (inl (jump.0, refl)) in
      let same : depths_of (after_jump code.setting op c) ≡ e = jump_depths (flow_of op) (operands_after code.setting op c.operands) c ∙ sym jump.1 in
      ap (λ (o : Option Counts). option_map depths_of o) there ∙ ap (λ (d : Depths). Some d) same
  closed_by_depth at c op b e is reads (inr fall) =
      let there = typed.closed at c op b (after_fall code.setting op c) is reads (inr (fall.0, fall.1, refl)) in
      let same : depths_of (after_fall code.setting op c) ≡ e = fall_depths (flow_of op) (operands_after code.setting op c.operands) c ∙ sym fall.2 in
      ap (λ (o : Option Counts). option_map depths_of o) there ∙ ap (λ (d : Depths). Some d) same

  pub typed_by_depth : IsDepthTyping code chunk m (λ at. option_map depths_of (typing at))
  typed_by_depth = record {
    entry = ap (λ (o : Option Counts). option_map depths_of o) typed.entry;
    shallow = λ at d is. (
        let c = counts_there (typing at) d is in
        let l = typed.shallow at c.0 c.1 in
        let same : c.0.operands ≡ d.operands = ap (λ (x : Depths). x.operands) c.2 in
        omega arith
        );
    met = λ at d is. (
        let c = counts_there (typing at) d is in
        let found = typed.met at c.0 c.1 in
        let meets = found.1.meets in (
          found.0,
          subst (λ (x : Depths). PassesByDepth code chunk at x found.0) c.2
              (record { stands = found.1.stands; operands = meets.operands; iterators = meets.iterators; handlers = meets.handlers; allowed = found.1.allowed }),
        )
        );
    closed = λ at d op b e is reads edge. (
        let c = counts_there (typing at) d is in
        closed_by_depth at c.0 op b e c.1 reads (subst (λ (x : Depths). DepthEdge code op at x b e) (sym c.2) edge)
        );
  }
