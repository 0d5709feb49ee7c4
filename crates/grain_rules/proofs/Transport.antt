-- A typing by index is a typing by address of what was assembled, and what is reached by index is reached there.
use Rattle.std.proofs.Common.{◌≡◌, ℕ, ◌+◌, ◌-◌, ◌<◌, ◌≤◌, ◌⊎◌, true, false, inl, inr, suc, zero, List, [], ◌∷◌, length, map, get_or, Option, Some, None, refl, sym, ap, subst, ◌∙◌, arith}
use Rattle.std.specs.Prelude.{slice_get, slice_index}
use Rattle.std.specs.List.{All, Contains}
use Rattle.std.proofs.lemmas.Bool.{cases_eq, cases_lt}
use Rattle.std.proofs.lemmas.List.{get_or_past}
use Rattle.std.proofs.lemmas.List.Elements.{All-contains, Contains-get_or}
use Rattle.std.proofs.lemmas.Option.{get_or_from_slice_get, none-some, slice_get_within}
use Rattle.grain_code.specs.Assembly.{AreWritable, CanAssemble, EachWritable, IsAssembly, assembled}
use Rattle.grain_code.specs.InstructionTable.{form}
use Rattle.grain_code.specs.Span.{Span}
use Rattle.grain_code.specs.declared.op.Op.{Op}
use Rattle.grain_code.specs.declared.op.Op.TheVariants as ops
use Rattle.grain_code.specs.declared.op.Receiver.TheVariants as receiver
use Rattle.grain_code.proofs.OperationPlaces.{stands_there}
use Rattle.grain_rules.specs.Accepted.{IsFramed}
use Rattle.grain_rules.specs.ByIndex.{IsCut, LeadWithin, code_by_index, span_moved, placed}
use Rattle.grain_rules.specs.Capabilities.{Allows}
use Rattle.grain_rules.specs.Code.{Bytecode, Code}
use Rattle.grain_rules.specs.Counts.{Counts, nothing}
use Rattle.grain_rules.specs.Effects.{Edge, targets}
use Rattle.grain_rules.specs.Flow as flows
use Rattle.grain_rules.specs.Flow.{Flow}
use Rattle.grain_rules.specs.Layout.{Reads}
use Rattle.grain_rules.specs.Setting.{Setting}
use Rattle.grain_rules.specs.Rows.{flow_of, row}
use Rattle.grain_rules.specs.FlowFields.{targets_for}
use Rattle.grain_rules.specs.Typing.{HasTyping, IsDeepest, Passes, Reached, StandsIn, begin, onward}
use Rattle.grain_rules.proofs.FlowsAlong.{IsAlong, caps_same, fall_same, falls_same, flow_along, jump_same, meets_here, meets_there, stays_here, stays_there, target_from, targets_same}
use Rattle.grain_rules.proofs.Offsets.{apart, ascends, before, next_there, not_after, offset_end, op_here, rises_to, same_or_below, start_there}
use Rattle.grain_rules.proofs.OperationUniqueness.{reads_once}
use Rattle.grain_rules.proofs.Splits.{in_cons, in_head, in_nil, in_tail}

-- an assembled operation does the same, and its flow leads to offsets
same_row : (offsets : List ℕ) (op : Op) (s : Setting) → row s (assembled offsets op) ≡ record (row s op) { flow = flow_along (slice_index offsets) (row s op).flow }
same_row offsets (ops.CallRef n a (receiver.Local slot) capture) s = refl
same_row offsets (ops.CallRef n a (receiver.Named m) capture) s = refl
same_row offsets (ops.CallRef n a receiver.This capture) s = refl
same_row offsets (ops.CallFnPtr a is_method capture (Some from)) s = refl
same_row offsets (ops.CallFnPtr a true capture None) s = refl
same_row offsets (ops.CallFnPtr a false capture None) s = refl
same_row offsets (ops.DeclareLocal n false is_global) s = refl
same_row offsets (ops.DeclareLocal n true is_global) s = refl
same_row offsets op s = refl

along : (offsets : List ℕ) (op : Op) → IsAlong (slice_index offsets) op (assembled offsets op)
along offsets op = record { row_is = same_row offsets op }

in_mapped : (f : ℕ → ℕ) (xs : List ℕ) (t : ℕ) → Contains xs t → Contains (map f xs) (f t)
in_mapped f [] t c = absurd (in_nil t c)
in_mapped f (x ∷ xs) t c =
    elim (in_cons x xs t c) [
      | inl e ↦ subst (λ (y : ℕ). Contains (map f (x ∷ xs)) (f y)) e (in_head (f x) (map f xs))
      | inr k ↦ in_tail (f x) (map f xs) (f t) (in_mapped f xs t k)
    ]

only_one : (x y : ℕ) → Contains (x ∷ []) y → y ≡ x
only_one x y c = elim (in_cons x [] y c) [ inl e ↦ sym e | inr k ↦ absurd (in_nil y k) ]

-- an own target that can be written is an index or the end
own_target : (n t : ℕ) (op : Op) → AreWritable n (form op).1 → Contains (targets [] op) t → t ≤ n
own_target n t (ops.Jump j) w c = subst (λ x. x ≤ n) (sym (only_one j t c)) w.0
own_target n t (ops.JumpIfTrue j) w c = subst (λ x. x ≤ n) (sym (only_one j t c)) w.0
own_target n t (ops.JumpIfFalse j) w c = subst (λ x. x ≤ n) (sym (only_one j t c)) w.0
own_target n t (ops.SkipIfNotUnit j) w c = subst (λ x. x ≤ n) (sym (only_one j t c)) w.0
own_target n t (ops.IterNext j None) w c = subst (λ x. x ≤ n) (sym (only_one j t c)) w.0
own_target n t (ops.IterNext j (Some counter)) w c = subst (λ x. x ≤ n) (sym (only_one j t c)) w.0
own_target n t (ops.PushHandler j None) w c = subst (λ x. x ≤ n) (sym (only_one j t c)) w.0
own_target n t (ops.PushHandler j (Some name)) w c = subst (λ x. x ≤ n) (sym (only_one j t c)) w.0
own_target n t (ops.Switch i) w c = absurd (in_nil t (subst (λ (xs : List ℕ). Contains xs t) (get_or_past [] i [] (omega arith)) c))
own_target n t (ops.CallRef name a (receiver.Local slot) capture) w c = absurd (in_nil t c)
own_target n t (ops.CallRef name a (receiver.Named other) capture) w c = absurd (in_nil t c)
own_target n t (ops.CallRef name a receiver.This capture) w c = absurd (in_nil t c)
own_target n t op w c = absurd (in_nil t c)

-- the targets of an operation are its own, or those of a switch
switch_or_own : (switches : List (List ℕ)) (flow : Flow) (t : ℕ) → Contains (targets_for switches flow) t → Contains (targets_for [] flow) t ⊎ ((xs : List ℕ) × Contains switches xs × Contains xs t)
switch_or_own switches (flows.Switches w) t c = elim (cases_lt w (length switches)) [
  | inl l ↦ inr (get_or switches w [], Contains-get_or switches w [] l, c)
  | inr g ↦ absurd (in_nil t (subst (λ (xs : List ℕ). Contains xs t) (get_or_past switches w [] g) c))
]
switch_or_own switches flows.Falls t c = inl c
switch_or_own switches flow t c = inl c

each_writable : (n : ℕ) (all : List Op) (op : Op) → EachWritable n all → Contains all op → AreWritable n (form op).1
each_writable n [] op w c = absurd (in_nil op c)
each_writable n (o ∷ rest) op w c = elim (in_cons o rest op c) [
  | inl e ↦ subst (λ (x : Op). AreWritable n (form x).1) e w.0
  | inr k ↦ each_writable n rest op w.1 k
]

-- a choice by cases
abbrev pick : {P Q A : Type 0} → P ⊎ Q → A → A → A
pick (inl p) x y = x
pick (inr q) x y = y

pick_left : {P Q A : Type 0} (d : P ⊎ Q) (x y : A) → (Q → ⊥) → pick d x y ≡ x
pick_left (inl p) x y h = refl
pick_left (inr q) x y h = absurd (h q)

pick_right : {P Q A : Type 0} (d : P ⊎ Q) (x y : A) → (P → ⊥) → pick d x y ≡ y
pick_right (inl p) x y h = absurd (h p)
pick_right (inr q) x y h = refl

pick_cases : {P Q A : Type 0} (d : P ⊎ Q) (x y z : A) → pick d x y ≡ z → (P × (x ≡ z)) ⊎ (Q × (y ≡ z))
pick_cases (inl p) x y z e = inl (p, e)
pick_cases (inr q) x y z e = inr (q, e)

-- counts by index, at the addresses of the first n of them
abbrev carried : (ℕ → ℕ) → (ℕ → Option Counts) → ℕ → ℕ → Option Counts
carried f typing zero b = None
carried f typing (suc k) b = pick (cases_eq b (f k)) (typing k) (carried f typing k b)

carried_at : (f : ℕ → ℕ) (typing : ℕ → Option Counts) (n i : ℕ) → ((j k : ℕ) → j < n → k < n → f j ≡ f k → j ≡ k) → i < n → carried f typing n (f i) ≡ typing i
carried_at f typing zero i one l = absurd (let k : i < 0 = l in omega arith)
carried_at f typing (suc n) i one l =
    elim (cases_eq i n) [
      | inl e ↦ pick_left (cases_eq (f i) (f n)) (typing n) (carried f typing n (f i)) (λ ne. ne (ap f e)) ∙ ap typing (sym e)
      | inr ne ↦ pick_right (cases_eq (f i) (f n)) (typing n) (carried f typing n (f i)) (λ e. ne (one i n l (omega arith) e)) ∙ carried_at f typing n i (λ j k a b e. one j k (omega arith) (omega arith) e) (omega arith)
    ]

carried_from : (f : ℕ → ℕ) (typing : ℕ → Option Counts) (n b : ℕ) (c : Counts) → carried f typing n b ≡ Some c → (i : ℕ) × (i < n) × (f i ≡ b) × (typing i ≡ Some c)
carried_from f typing zero b c e = absurd (none-some c e)
carried_from f typing (suc n) b c e =
    elim (pick_cases (cases_eq b (f n)) (typing n) (carried f typing n b) (Some c) e) [
      | inl h ↦ (n, omega arith, sym h.0, h.1)
      | inr h ↦ let k = carried_from f typing n b c h.1 in (k.0, (let l = k.1 in omega arith), k.2, k.3)
    ]

module _ (s : Setting) (all : List Op) (switches : List (List ℕ)) (code offsets : List ℕ) (made : IsAssembly all code offsets) (can : CanAssemble all) (fit : LeadWithin (length all) switches) where
  abbrev f : ℕ → ℕ
  f = slice_index offsets

  abbrev here : Code
  here = code_by_index s all switches

  abbrev there : Code
  there = placed s f code switches

  bounded : (op : Op) → Contains all op → (t : ℕ) → Contains (targets switches op) t → t ≤ length all
  bounded op c t k = elim (switch_or_own switches (flow_of op) t k) [
    | inl own ↦ own_target (length all) t op (each_writable (length all) all op can.writable c) own
    | inr led ↦ All-contains (λ target. target ≤ length all) led.0 t (All-contains (All (λ target. target ≤ length all)) switches led.0 fit led.1) led.2
  ]

  one : (j k : ℕ) → j < length all → k < length all → f j ≡ f k → j ≡ k
  one j k a b e = apart all code offsets made j k (omega arith) (omega arith) e

  stands : (i : ℕ) (op : Op) → slice_get all i ≡ Some op → Reads there.layout (f i) (assembled offsets op)
  stands i op r = stands_there all code offsets made i op r

  edge_there : (i : ℕ) (op : Op) (c : Counts) (j : ℕ) (d : Counts) → slice_get all i ≡ Some op → Edge here op i c j d → Edge there (assembled offsets op) (f i) c (f j) d
  edge_there i op c j d r (inl e) =
      inl (subst (λ (xs : List ℕ). Contains xs (f j)) (sym (targets_same (along offsets op) switches)) (in_mapped f (targets switches op) j e.0), e.1 ∙ sym (jump_same s (along offsets op) c))
  edge_there i op c j d r (inr e) =
      inr (falls_same (along offsets op) ∙ e.0, ap f e.1 ∙ next_there all code offsets made i op r, e.2 ∙ sym (fall_same s (along offsets op) c))

  edge_here : (i : ℕ) (op : Op) (c : Counts) (b : ℕ) (d : Counts) → slice_get all i ≡ Some op → Edge there (assembled offsets op) (f i) c b d → (j : ℕ) × (f j ≡ b) × Edge here op i c j d
  edge_here i op c b d r (inl e) =
      let h = target_from (along offsets op) switches b e.0 in
      (h.0, h.2, inl (h.1, e.1 ∙ jump_same s (along offsets op) c))
  edge_here i op c b d r (inr e) =
      (i + 1, next_there all code offsets made i op r ∙ sym e.1, inr (sym (falls_same (along offsets op)) ∙ e.0, refl, e.2 ∙ fall_same s (along offsets op) c))

  listed_in : (i : ℕ) (op : Op) → slice_get all i ≡ Some op → Contains all op
  listed_in i op r =
      let l = slice_get_within all i op r in
      subst (λ (o : Op). Contains all o) (get_or_from_slice_get all i op op r) (Contains-get_or all i op l)

  edge_bounded : (i : ℕ) (op : Op) (c : Counts) (j : ℕ) (d : Counts) → slice_get all i ≡ Some op → Edge here op i c j d → j ≤ length all
  edge_bounded i op c j d r (inl e) = bounded op (listed_in i op r) j e.0
  edge_bounded i op c j d r (inr e) = let l = slice_get_within all i op r in let k = e.1 in omega arith

  stands_in_there : (cut : Span) (i : ℕ) (op : Op) → cut.end ≤ length all → StandsIn here cut i op → StandsIn there (span_moved f cut) (f i) (assembled offsets op)
  stands_in_there cut i op part h =
      let w = h.within in
      record {
        within = record {
          entry = rises_to all code offsets made cut.entry i w.entry (let l = w.end in omega arith);
          end = ascends all code offsets made i cut.end w.end part;
          place = start_there all code offsets made i w.place;
        };
        is = stands i op h.is;
      }

  passes_there : (cut : Span) (i : ℕ) (c : Counts) (op : Op) → cut.end ≤ length all → Passes here cut i c op → Passes there (span_moved f cut) (f i) c (assembled offsets op)
  passes_there cut i c op part p = record {
    stands = stands_in_there cut i op part p.stands;
    meets = meets_there s (along offsets op) c p.meets;
    allowed = subst (Allows s.caps) (sym (caps_same s (along offsets op))) p.allowed;
    stays = stays_there s (along offsets op) c p.stays;
  }

  -- what is in the chunk is the operation of an index of the cut
  passes_here : (cut : Span) (i : ℕ) (c : Counts) (op' : Op) → IsCut (length all) cut → i ≤ length all → Passes there (span_moved f cut) (f i) c op' → (op : Op) × Passes here cut i c op × (op' ≡ assembled offsets op)
  passes_here cut i c op' part l p =
      let w = p.stands.within in
      let end : i < cut.end = before all code offsets made i cut.end l w.end in
      let k : i < length all = let q = part.inside in omega arith in
      let o = op_here all code offsets made i k in
      let same : op' ≡ assembled offsets o.0 = reads_once there.layout (f i) op' (assembled offsets o.0) p.stands.is (stands i o.0 o.1) in
      let p' = subst (λ (x : Op). Passes there (span_moved f cut) (f i) c x) same p in (
        o.0,
        record {
          stands = record {
            within = record { entry = not_after all code offsets made cut.entry i (let p = part.ordered in let q = part.inside in omega arith) w.entry l; end = end; place = k };
            is = o.1;
          };
          meets = meets_here s (along offsets o.0) c p'.meets;
          allowed = subst (Allows s.caps) (caps_same s (along offsets o.0)) p'.allowed;
          stays = stays_here s (along offsets o.0) c p'.stays;
        },
        same,
      )

  -- a typing by index is one by address
  pub typed_there : (cut : Span) (m : ℕ) → cut.end ≤ length all → HasTyping here cut m → HasTyping there (span_moved f cut) m
  typed_there cut m part (typing, h) =
      let n = length all in
      let at_entry = h.met cut.entry nothing h.entry in (
        carried f typing n,
        record {
          entry = carried_at f typing n cut.entry one at_entry.1.stands.within.place ∙ h.entry;
          shallow = λ b c e. (let k = carried_from f typing n b c e in h.shallow k.0 c k.3);
          met = λ b c e. (
              let k = carried_from f typing n b c e in
              let w = h.met k.0 c k.3 in
              (assembled offsets w.0, subst (λ (x : ℕ). Passes there (span_moved f cut) x c (assembled offsets w.0)) k.2 (passes_there cut k.0 c w.0 part w.1))
              );
          closed = λ b c op' d t e r ed. (
              let k = carried_from f typing n b c e in
              let w = h.met k.0 c k.3 in
              let read = subst (λ (x : ℕ). Reads there.layout x op') (sym k.2) r in
              let same = reads_once there.layout (f k.0) op' (assembled offsets w.0) read (stands k.0 w.0 w.1.stands.is) in
              let ed' = subst (λ (x : ℕ). Edge there (assembled offsets w.0) x c d t) (sym k.2) (subst (λ (o : Op). Edge there o b c d t) same ed) in
              let j = edge_here k.0 w.0 c d t w.1.stands.is ed' in
              let to = h.closed k.0 c w.0 j.0 t k.3 w.1.stands.is j.2 in
              let inside = (h.met j.0 t to).1.stands.within.place in
              ap (λ (x : ℕ). carried f typing n x) (sym j.1) ∙ (carried_at f typing n j.0 one inside ∙ to)
              );
        },
      )

  -- counts by address, at the indices
  abbrev back : (ℕ → Option Counts) → ℕ → Option Counts
  back typing i = pick (cases_lt i (length all)) (typing (f i)) None

  back_at : (typing : ℕ → Option Counts) (i : ℕ) → i < length all → back typing i ≡ typing (f i)
  back_at typing i l = pick_left (cases_lt i (length all)) (typing (f i)) None (λ g. omega arith)

  back_from : (typing : ℕ → Option Counts) (i : ℕ) (c : Counts) → back typing i ≡ Some c → (i < length all) × (typing (f i) ≡ Some c)
  back_from typing i c e = elim (pick_cases (cases_lt i (length all)) (typing (f i)) None (Some c) e) [ inl h ↦ h | inr h ↦ absurd (none-some c h.1) ]

  -- a typing by address is one by index
  pub typed_here : (cut : Span) (m : ℕ) → IsCut (length all) cut → HasTyping there (span_moved f cut) m → HasTyping here cut m
  typed_here cut m part (typing, h) =
      let at_entry = h.met (f cut.entry) nothing h.entry in
      let first : cut.entry < length all = let l = before all code offsets made cut.entry cut.end (let p = part.ordered in let q = part.inside in omega arith)
      at_entry.1.stands.within.end in let q = part.inside in omega arith in (
        back typing,
        record {
          entry = back_at typing cut.entry first ∙ h.entry;
          shallow = λ i c e. (let k = back_from typing i c e in h.shallow (f i) c k.1);
          met = λ i c e. (
              let k = back_from typing i c e in
              let w = h.met (f i) c k.1 in
              let l = k.0 in
              let o = passes_here cut i c w.0 part (omega arith) w.1 in
              (o.0, o.1)
              );
          closed = λ i c op j t e r ed. (
              let k = back_from typing i c e in
              let to = h.closed (f i) c (assembled offsets op) (f j) t k.1 (stands i op r) (edge_there i op c j t r ed) in
              let within = (h.met (f j) t to).1.stands.within in
              let l = before all code offsets made j cut.end (edge_bounded i op c j t r ed) within.end in
              back_at typing j (let q = part.inside in omega arith) ∙ to
              );
        },
      )

  -- what is reached by index is reached by address
  pub reached_there : (cut : Span) → cut.end ≤ length all → (i : ℕ) (c : Counts) → Reached here cut i c → Reached there (span_moved f cut) (f i) c
  reached_there cut part i c begin = begin
  reached_there cut part j d (onward {at} {c} {op} r p e) =
      onward (reached_there cut part at c r) (passes_there cut at c op part p) (edge_there at op c j d p.stands.is e)

  -- and the other way
  pub reached_here : (cut : Span) → IsCut (length all) cut → (b : ℕ) (c : Counts) → Reached there (span_moved f cut) b c → (i : ℕ) × (i ≤ length all) × (f i ≡ b) × Reached here cut i c
  reached_here cut part b c begin = (cut.entry, (let p = part.ordered in let q = part.inside in omega arith), refl, begin)
  reached_here cut part b d (onward {at} {c} {op} r p e) =
      let k = reached_here cut part at c r in
      let o = passes_here cut k.0 c op part k.1 (subst (λ (x : ℕ). Passes there (span_moved f cut) x c op) (sym k.2) p) in
      let ed = subst (λ (x : ℕ). Edge there (assembled offsets o.0) x c b d) (sym k.2) (subst (λ (q : Op). Edge there q at c b d) o.2 e) in
      let j = edge_here k.0 o.0 c b d o.1.stands.is ed in
      (j.0, edge_bounded k.0 o.0 c j.0 d o.1.stands.is j.2, j.1, onward k.3 o.1 j.2)

  -- so the greatest counts are the same
  pub deepest_here : (cut : Span) (n : ℕ) → IsCut (length all) cut → IsDeepest there (span_moved f cut) n → IsDeepest here cut n
  deepest_here cut n part d = record {
    most = λ i c r. d.most (f i) c (reached_there cut part.inside i c r);
    attained = (let a = d.attained in let h = reached_here cut part a.0 a.1.0 a.1.1 in (h.0, (a.1.0, h.3, a.1.2)));
  }

  pub deepest_there : (cut : Span) (n : ℕ) → IsCut (length all) cut → IsDeepest here cut n → IsDeepest there (span_moved f cut) n
  deepest_there cut n part d = record {
    most = λ b c r. (let h = reached_here cut part b c r in d.most h.0 c h.3);
    attained = (let a = d.attained in (f a.0, (a.1.0, reached_there cut part.inside a.0 a.1.0 a.1.1, a.1.2)));
  }

  -- a cut with a typing is a chunk that lies well
  pub framed_there : (bytecode : Bytecode) (cut : Span) (m : ℕ) → bytecode.bytes ≡ code → IsCut (length all) cut → HasTyping here cut m → IsFramed bytecode (span_moved f cut)
  framed_there bytecode cut m same part (typing, h) =
      let w = (h.met cut.entry nothing h.entry).1.stands.within in
      subst (λ (bs : List ℕ). IsFramed (record bytecode { bytes = bs }) (span_moved f cut)) (sym same) (record {
        ordered = rises_to all code offsets made cut.entry cut.end part.ordered part.inside;
        inside = (let r = rises_to all code offsets made cut.end (length all) part.inside (omega arith) in let e = offset_end all code offsets made in omega arith);
        entry = start_there all code offsets made cut.entry w.place;
        end = elim (same_or_below cut.end (length all) part.inside) [
          | inl e ↦ inr (ap f e ∙ offset_end all code offsets made)
          | inr l ↦ inl (start_there all code offsets made cut.end l)
        ];
      })
