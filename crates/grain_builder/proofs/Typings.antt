-- A chunk of what is assembled has a typing by index once its labels are resolved.
use Rattle.std.proofs.Common.{◌≡◌, ℕ, ◌<◌, ◌≤◌, inl, inr, Bool, true, false, cond, nat_eq, List, [], length, map, get_or, Option, Some, None, refl, sym, ap, subst, ◌∙◌, arith, option_map}
use Rattle.std.specs.Prelude.{slice_get, slice_index}
use Rattle.std.specs.List.{All, Contains}
use Rattle.std.proofs.lemmas.List.Elements.{All-map}
use Rattle.std.proofs.lemmas.Bool.{cases_lt, eq-eqb}
use Rattle.std.proofs.lemmas.Bool.Decides.{eqb_tells}
use Rattle.std.proofs.lemmas.List.{get_or_past}
use Rattle.std.proofs.lemmas.Option.{get_or_from_slice_get, none-some, slice_get-get_or, slice_get-map, slice_get_within}
use Rattle.grain_code.specs.Span.{Span}
use Rattle.grain_code.specs.declared.op.Op.{Op}
use Rattle.grain_code.specs.declared.op.Op.TheVariants as ops
use Rattle.grain_rules.specs.ByIndex.{IsCut, LeadWithin, code_by_index}
use Rattle.grain_rules.specs.Capabilities.{Allows}
use Rattle.grain_rules.specs.Counts.{Counts, nothing}
use Rattle.grain_rules.specs.Effects.{Edge, Meets, after_fall, after_jump}
use Rattle.grain_rules.specs.Flow as flows
use Rattle.grain_rules.specs.Flow.{Flow}
use Rattle.grain_rules.specs.FlowFields.{targets_for}
use Rattle.grain_rules.specs.Rows.{caps_of, flow_of}
use Rattle.grain_rules.specs.Setting.{Setting}
use Rattle.grain_rules.specs.Sinking.{Stays}
use Rattle.grain_rules.specs.Typing.{HasTyping, Passes}
use Rattle.grain_rules.proofs.FlowsAlong.{fall_same, falls_same, jump_same, meets_there, stays_there, target_from}
use Rattle.grain_builder.specs.Unfinished.{Spot}
use Rattle.grain_builder.specs.Fitting.{HasChains, HasTables, spot_counts, spot_of}
use Rattle.grain_builder.specs.Resolved.{resolved_op, resolved_tables}
use Rattle.grain_builder.specs.Sound.{IsChunk, IsWellMade, Workings}
use Rattle.grain_builder.specs.Finished.{LeadAmong}
use Rattle.grain_builder.proofs.ResolvedRows.{along}

some_inj : {A : Type 0} {x y : A} → Some x ≡ Some y → x ≡ y
some_inj e = cc

at_most_one : (b : Bool) → cond b 1 0 ≤ 1
at_most_one true = omega arith
at_most_one false = omega arith

-- the counts of a spot that is of the chunk that begins here
abbrev pub counts_within : ℕ → Option Spot → Option Counts
counts_within home None = None
counts_within home (Some p) = cond (nat_eq p.home home) (Some (spot_counts p)) None

within_spot : (home : ℕ) (found : Option Spot) (c : Counts) → counts_within home found ≡ Some c → (p : Spot) × (found ≡ Some p) × (p.home ≡ home) × (spot_counts p ≡ c)
within_spot home None c e = absurd (none-some c e)
within_spot home (Some p) c e = elim (eqb_tells p.home home) [
  | inl w ↦
      let g : Some (spot_counts p) ≡ Some c = subst (λ (b : Bool). cond b (Some (spot_counts p)) None ≡ Some c) w.0 e in
      (p, refl, w.1, (cc))
  | inr w ↦
      let g : None ≡ Some c = subst (λ (b : Bool). cond b (Some (spot_counts p)) None ≡ Some c) w.0 e in
      absurd (none-some c g)
]

-- with switches that lead nowhere else an operation has no other targets
targets_among : (leads tables : List (List ℕ)) → LeadAmong leads tables → (f : Flow) (b : ℕ) → Contains (targets_for leads f) b → Contains (targets_for tables f) b
targets_among leads tables among (flows.Switches w) b c = among w b c
targets_among leads tables among flows.Falls b c = c
targets_among leads tables among flows.Ends b c = c
targets_among leads tables among (flows.Jumps t) b c = c
targets_among leads tables among (flows.Branches t) b c = c
targets_among leads tables among flows.BeginsIterator b c = c
targets_among leads tables among (flows.AdvancesIterator t) b c = c
targets_among leads tables among flows.EndsIterator b c = c
targets_among leads tables among (flows.PushesHandler t) b c = c
targets_among leads tables among flows.PopsHandler b c = c

-- a label that is bound is bound to an operation, or behind the last one
module _ (k : Workings) (sound : IsWellMade k) (closed : k.pending ≡ 0) where
  pub target_within : (l : ℕ) → slice_index k.targets l ≤ length k.ops
  target_within l = elim (cases_lt l (length k.targets)) [
    | inr far ↦ let e = get_or_past k.targets l 0 far in omega arith
    | inl near ↦
        let same = sound.lengths.0 in
        let bound : slice_get k.targets l ≡ Some (get_or k.targets l 0) = slice_get-get_or k.targets l 0 near in
        let label : slice_get k.labels l ≡ Some (get_or k.labels l (spot_of 0 nothing)) = slice_get-get_or k.labels l (spot_of 0 nothing) (omega arith) in
        let here = sound.landing l (get_or k.targets l 0) (get_or k.labels l (spot_of 0 nothing)) bound label (sound.bound.behind l (get_or k.targets l 0) (omega arith) bound) in
        let few = slice_get_within sound.spots (get_or k.targets l 0) (get_or k.labels l (spot_of 0 nothing)) here in
        let count = sound.count in
        let one : cond k.fixed 1 0 ≤ 1 = at_most_one k.fixed in
        omega arith
  ]

  pub lead_within : LeadWithin (length k.ops) (resolved_tables k.targets k.tables)
  lead_within = All-map (All (λ (t : ℕ). t ≤ length k.ops)) (map (slice_index k.targets)) k.tables
      (λ j d h. All-map (λ (t : ℕ). t ≤ length k.ops) (slice_index k.targets) (get_or k.tables j d) (λ i e g. target_within (get_or (get_or k.tables j d) i e)))

  pub are_cuts : All (IsCut (length k.ops)) k.cuts
  are_cuts j d h =
      let chunk = (sound.cuts j (get_or k.cuts j d) (slice_get-get_or k.cuts j d h)).0 in
      record {
        ordered = elim (cases_lt (get_or k.cuts j d).end (get_or k.cuts j d).entry) [
          | inl l ↦ absurd (chunk.behind (get_or k.cuts j d).entry (spot_of (get_or k.cuts j d).entry nothing) (omega arith) chunk.entry refl)
          | inr g ↦ g
        ];
        inside = chunk.inside;
      }

module _ (k : Workings) (sound : IsWellMade k) (closed : k.pending ≡ 0) (s : Setting) (leads : List (List ℕ)) (chains : HasChains s k.chains) (allowed : (op : Op) → Allows s.caps (caps_of s op)) (among : LeadAmong leads (resolved_tables k.targets k.tables)) (cut : Span) (chunk : IsChunk k.ops sound.spots cut) where
  abbrev typing : ℕ → Option Counts
  typing at = counts_within cut.entry (slice_get sound.spots at)

  abbrev listed : List Op
  listed = map (resolved_op k.targets) k.ops

  abbrev tables : List (List ℕ)
  tables = resolved_tables k.targets k.tables

  own_tables : HasTables k.tables k.tables
  own_tables w t e = get_or_from_slice_get k.tables w t [] e

  -- a spot of the chunk is that of an operation
  op_there : (i : ℕ) (p : Spot) → slice_get sound.spots i ≡ Some p → p.home ≡ cut.entry → (op : Op) × (slice_get k.ops i ≡ Some op)
  op_there i p e h = elim (cases_lt i cut.end) [
    | inl l ↦ let n = chunk.inside in (get_or k.ops i ops.Unit, slice_get-get_or k.ops i ops.Unit (omega arith))
    | inr g ↦ absurd (chunk.behind i p g e h)
  ]

  typed_at : (at : ℕ) (p : Spot) → slice_get sound.spots at ≡ Some p → p.home ≡ cut.entry → typing at ≡ Some (spot_counts p)
  typed_at at p e h = ap (counts_within cut.entry) e ∙ ap (λ (b : Bool). cond b (Some (spot_counts p)) None) (eq-eqb p.home cut.entry h)

  read_resolved : (i : ℕ) (op : Op) → slice_get k.ops i ≡ Some op → slice_get listed i ≡ Some (resolved_op k.targets op)
  read_resolved i op e = slice_get-map (resolved_op k.targets) k.ops i ∙ ap (option_map (resolved_op k.targets)) e

  met : (at : ℕ) (c : Counts) → typing at ≡ Some c → (op : Op) × Passes (code_by_index s listed leads) cut at c op
  met at c e =
      let w = within_spot cut.entry (slice_get sound.spots at) c e in
      let o = op_there at w.0 w.1 w.2 in
      let fits = sound.fitting.fits at o.0 w.0 o.1 w.1 in
      let read = read_resolved at o.0 o.1 in (
        resolved_op k.targets o.0,
        record {
          stands = record {
            within = record {
              entry = let h = sound.homes at w.0 w.1 in let g : w.0.home ≡ cut.entry = w.2 in omega arith;
              end = elim (cases_lt at cut.end) [ inl l ↦ l | inr g ↦ absurd (chunk.behind at w.0 g w.1 w.2) ];
              place = slice_get_within listed at (resolved_op k.targets o.0) read;
            };
            is = read;
          };
          meets = subst (λ (x : Counts). Meets s (resolved_op k.targets o.0) x) w.3 (meets_there s (along k.targets o.0) (spot_counts w.0) (fits.meets s chains));
          allowed = allowed (resolved_op k.targets o.0);
          stays = subst (λ (x : Counts). Stays s (resolved_op k.targets o.0) x) w.3 (stays_there s (along k.targets o.0) (spot_counts w.0) (fits.stays s chains));
        },
      )

  label_there : (l : ℕ) (p : Spot) → slice_get k.labels l ≡ Some p → slice_get sound.spots (slice_index k.targets l) ≡ Some p
  label_there l p e =
      let inside : l < length k.labels = slice_get_within k.labels l p e in
      let same = sound.lengths.0 in
      let here : slice_get k.targets l ≡ Some (get_or k.targets l 0) = slice_get-get_or k.targets l 0 (omega arith) in
      sound.landing l (get_or k.targets l 0) p here e (sound.bound.behind l (get_or k.targets l 0) (omega arith) here)

  closed_edges : (at : ℕ) (c : Counts) (op : Op) (b : ℕ) (d : Counts) → typing at ≡ Some c → slice_get listed at ≡ Some op → Edge (code_by_index s listed leads) op at c b d → typing b ≡ Some d
  closed_edges at c op b d e r edge =
      let w = within_spot cut.entry (slice_get sound.spots at) c e in
      let p = w.0 in
      let o = op_there at p w.1 w.2 in
      let fits = sound.fitting.fits at o.0 p o.1 w.1 in
      let read : slice_get listed at ≡ Some (resolved_op k.targets o.0) = read_resolved at o.0 o.1 in
      let same : op ≡ resolved_op k.targets o.0 = some_inj (sym r ∙ read) in
      let there : Edge (code_by_index s listed leads) (resolved_op k.targets o.0) at (spot_counts p) b d =
      subst (λ (x : Op). Edge (code_by_index s listed leads) x at (spot_counts p) b d) same
      (subst (λ (x : Counts). Edge (code_by_index s listed leads) op at x b d) (sym w.3) edge) in
      elim there [
        | inl j ↦
            let t = target_from (along k.targets o.0) k.tables b (targets_among leads tables among (flow_of (resolved_op k.targets o.0)) b j.0) in
            let found = label_there t.0 _ (fits.jumps s k.tables t.0 chains own_tables t.1) in
            typed_at b _ (subst (λ (n : ℕ). slice_get sound.spots n ≡ Some (spot_of p.home (after_jump s o.0 (spot_counts p)))) t.2 found) w.2
            ∙ ap (λ (x : Counts). Some x) (sym (j.1 ∙ jump_same s (along k.targets o.0) (spot_counts p)))
        | inr f ↦
            let found = sound.fitting.falls at o.0 p s o.1 w.1 chains (sym (falls_same (along k.targets o.0)) ∙ f.0) in
            typed_at b _ (subst (λ (n : ℕ). slice_get sound.spots n ≡ Some (spot_of p.home (after_fall s o.0 (spot_counts p)))) (sym f.1) found) w.2
            ∙ ap (λ (x : Counts). Some x) (sym (f.2 ∙ fall_same s (along k.targets o.0) (spot_counts p)))
      ]

  shallow : (at : ℕ) (c : Counts) → typing at ≡ Some c → c.operands ≤ cut.max_stack
  shallow at c e =
      let w = within_spot cut.entry (slice_get sound.spots at) c e in
      let o = op_there at w.0 w.1 w.2 in
      let fits = sound.fitting.fits at o.0 w.0 o.1 w.1 in
      let n : (spot_counts w.0).operands ≡ c.operands = ap (λ (x : Counts). x.operands) w.3 in
      let h : w.0.operands ≤ 65535 = fits.shallow in
      let m = chunk.most in
      omega arith

  pub typed : HasTyping (code_by_index s listed leads) cut cut.max_stack
  typed = (
    typing,
    record {
      entry = typed_at cut.entry (spot_of cut.entry nothing) chunk.entry refl;
      shallow = shallow;
      met = met;
      closed = closed_edges;
    },
  )
