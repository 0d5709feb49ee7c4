-- What moves a run makes, with the operands and iterators that stay.
use Rattle.std.proofs.Common.{◌≡◌, ℕ, ◌+◌, ◌-◌, ◌≤◌, true, false, List, [], ◌∷◌, ◌++◌, length, min, take, refl, sym, ap, ◌∙◌, subst, arith}
use Rattle.std.specs.List.{Contains}
use Rattle.std.proofs.lemmas.List.{length-take}
use Rattle.grain_code.specs.declared.op.Op.{Op}
use Rattle.grain_code.specs.declared.op.Op.TheVariants as ops
use Rattle.grain_rules.specs.Effects.{after_fall, after_jump, falls_through, iterators_needed, targets}
use Rattle.grain_rules.specs.Flow.{Flow}
use Rattle.grain_rules.specs.FlowFields.{jumps_for}
use Rattle.grain_rules.specs.Layout.{switches}
use Rattle.grain_rules.specs.Machine.{Handler, counts, handlers_after}
use Rattle.grain.specs.Program.{setting_of}
use Rattle.grain_rules.specs.Rows.{flow_of, is_quiet, needs, takes}
use Rattle.grain_machine.specs.Asked.{IsForHost, program_code}
use Rattle.grain_machine.specs.State.{Advances, FrameState, IsAt, MakesMove, Replaces, Runs, frame_with_iterators, frame_with_operands, state_of}
use Rattle.grain_machine.specs.Values.{KeepsFirst, Lands, ValueMachine, below, counted, rotated, touched, touched_by}
use Rattle.grain_machine.proofs.Keeping.{kept_before, kept_cut, kept_self, length-below, length-replaced}
use Rattle.grain_machine.proofs.Moves.{LandsSo, goes_back, goes_on, goes_to, plain_on}

-- the frame with these stacks
abbrev pub filled : {V I : Type 0} → ℕ → List V → List I → List Handler → ℕ → FrameState V I
filled address operands iterators handlers room =
    record { machine = record { address = address; operands = operands; iterators = iterators; handlers = handlers }; room = room }

-- where a fault lands, by the counts
pub lands_counted : {V I : Type 0} (m n : ValueMachine V I) → Lands m n → LandsSo (counted m) (counted n)
lands_counted {V} {I} m n l =
    let e : counted n ≡ record {
      address = l.handler.target;
      operands = length (take l.handler.operands m.operands);
      iterators = length (take l.handler.iterators m.iterators);
      handlers = record l.handler { spent = true } ∷ l.outer;
    } = ap counted l.lands in
    let xs : length (take l.handler.operands m.operands) ≡ min (length m.operands) l.handler.operands = omega (arith, length-take l.handler.operands m.operands) in
    let is : length (take l.handler.iterators m.iterators) ≡ min (length m.iterators) l.handler.iterators = omega (arith, length-take l.handler.iterators m.iterators) in
    record {
      handler = l.handler;
      outer = l.outer;
      caught = l.caught;
      lands = e ∙ (λ i. record { address = l.handler.target; operands = xs i; iterators = is i; handlers = record l.handler { spent = true } ∷ l.outer });
    }

-- an operation that isn't quiet doesn't rotate
pub no_rotation : (op : Op) → is_quiet op ≡ false → (depth : ℕ) → op ≡ ops.Rotate depth → ⊥
no_rotation op sounds depth e = let quiet : true ≡ is_quiet op = ap is_quiet (sym e) in absurd (let f : true ≡ false = quiet ∙ sounds in cc)

module _ {V I : Type 0} (r : Runs) (s : FrameState V I) (op : Op) (behind : ℕ) (at : IsAt r (state_of s) op behind) where
  abbrev KeepsOperands : List V → Type 0
  KeepsOperands xs = KeepsFirst (length s.machine.operands - touched (setting_of r.program) op) s.machine.operands xs

  abbrev KeepsIterators : List I → Type 0
  KeepsIterators its = KeepsFirst (length s.machine.iterators - iterators_needed op) s.machine.iterators its

  -- an operation that falls through
  pub went_on : (xs : List V) (its : List I) (hs : List Handler) → falls_through op ≡ true
      → length xs ≡ (after_fall (setting_of r.program) op (counts (counted s.machine))).operands
      → length its ≡ (after_fall (setting_of r.program) op (counts (counted s.machine))).iterators → hs ≡ handlers_after op (counted s.machine)
      → KeepsOperands xs → KeepsIterators its → ((depth : ℕ) → op ≡ ops.Rotate depth → xs ≡ rotated depth s.machine.operands)
      → MakesMove r s (filled behind xs its hs s.room)
  went_on xs its hs falls ex ey eh ko ki rotates = record {
    goes = goes_on r (state_of s) op behind (length xs) (length its) hs at falls ex ey eh;
    passes = record { op = op; stands = at.finds.stands.is; operands = ko; iterators = ki; rotates = rotates };
  }

  -- an operation that jumps, and isn't quiet
  pub went_to : (target : ℕ) (xs : List V) (its : List I) (hs : List Handler) → jumps_for (flow_of op) ≡ true
      → Contains (targets (switches (program_code r.program).layout) op) target
      → length xs ≡ (after_jump (setting_of r.program) op (counts (counted s.machine))).operands
      → length its ≡ (after_jump (setting_of r.program) op (counts (counted s.machine))).iterators → hs ≡ handlers_after op (counted s.machine)
      → is_quiet op ≡ false → KeepsOperands xs → KeepsIterators its → MakesMove r s (filled target xs its hs s.room)
  went_to target xs its hs jumps among ex ey eh sounds ko ki = record {
    goes = goes_to r (state_of s) op behind target (length xs) (length its) hs at jumps among ex ey eh;
    passes = record { op = op; stands = at.finds.stands.is; operands = ko; iterators = ki; rotates = λ depth e. absurd (no_rotation op sounds depth e) };
  }

  -- a fault that finds the stacks as they are then
  pub fell_back : (x t : FrameState V I) → is_quiet op ≡ false → x.machine.handlers ≡ s.machine.handlers
      → length s.machine.operands - takes (setting_of r.program) op ≤ length x.machine.operands
      → length x.machine.operands ≤ length s.machine.operands → length x.machine.iterators ≡ length s.machine.iterators → x.room ≡ s.room
      → KeepsOperands x.machine.operands → KeepsIterators x.machine.iterators → Lands x.machine t.machine → t.room ≡ x.room → MakesMove r s t
  fell_back x t sounds eh low high ei er ko ki lands room = record {
    goes = goes_back r (state_of s) (state_of x) (state_of t) op behind at.runs at sounds eh low high ei er (lands_counted x.machine t.machine lands) room;
    passes = record {
      op = op;
      stands = at.finds.stands.is;
      operands = subst (λ (m : ValueMachine V I). KeepsOperands m.operands) (sym lands.lands)
          (kept_cut (length s.machine.operands - touched (setting_of r.program) op) lands.handler.operands s.machine.operands x.machine.operands ko);
      iterators = subst (λ (m : ValueMachine V I). KeepsIterators m.iterators) (sym lands.lands)
          (kept_cut (length s.machine.iterators - iterators_needed op) lands.handler.iterators s.machine.iterators x.machine.iterators ki);
      rotates = λ depth e. absurd (no_rotation op sounds depth e);
    };
  }

  -- where it found them whole
  pub whole_back : (x t : FrameState V I) → is_quiet op ≡ false → x ≡ s → Lands x.machine t.machine → t.room ≡ x.room → MakesMove r s t
  whole_back x t sounds e = subst (λ (y : FrameState V I). Lands y.machine t.machine → t.room ≡ y.room → MakesMove r s t) (sym e)
      (fell_back s t sounds refl (omega arith) (omega arith) refl refl (kept_self _ _) (kept_self _ _))

  -- where it has taken its one operand
  pub popped_back : (x t : FrameState V I) → is_quiet op ≡ false → takes (setting_of r.program) op ≡ 1
      → x ≡ frame_with_operands (below 1 s.machine.operands) s → Lands x.machine t.machine → t.room ≡ x.room → MakesMove r s t
  popped_back x t sounds one e =
      let left : length (below 1 s.machine.operands) ≡ length s.machine.operands - 1 = length-below 1 s.machine.operands in
      subst (λ (y : FrameState V I). Lands y.machine t.machine → t.room ≡ y.room → MakesMove r s t) (sym e)
      (fell_back (frame_with_operands (below 1 s.machine.operands) s) t sounds refl (omega arith) (omega arith) refl refl
      (kept_cut _ (length s.machine.operands - 1) s.machine.operands s.machine.operands (kept_self _ _)) (kept_self _ _))

  -- where the innermost iterator has gone on
  pub advanced_back : (x t : FrameState V I) → is_quiet op ≡ false → iterators_needed op ≡ 1 → Advances s x → Lands x.machine t.machine → t.room ≡ x.room → MakesMove r s t
  advanced_back x t sounds one (on, e) =
      let its = below 1 s.machine.iterators ++ on ∷ [] in
      let there : 1 ≤ length s.machine.iterators = (let h = at.finds.meets.iterators in omega (arith, h, one)) in
      let as_many : length its ≡ length s.machine.iterators - 1 + 1 = length-replaced 1 s.machine.iterators (on ∷ []) in
      let kept : KeepsIterators its = subst (λ (n : ℕ). KeepsFirst (length s.machine.iterators - n) s.machine.iterators its) (sym one)
      (kept_before (length s.machine.iterators - 1) s.machine.iterators (on ∷ []) (omega arith)) in
      subst (λ (y : FrameState V I). Lands y.machine t.machine → t.room ≡ y.room → MakesMove r s t) (sym e)
      (fell_back (frame_with_iterators its s) t sounds refl (omega arith) (omega arith) (omega (arith, there, as_many)) refl (kept_self _ _) kept)

  -- an operation of the host's may change what it needs
  plain_touched : (needed taken given : ℕ) → IsForHost (setting_of r.program) op needed taken given → touched (setting_of r.program) op ≡ needed
  plain_touched needed taken given plain =
      ap (λ (f : Flow). touched_by f (needs (setting_of r.program) op) (takes (setting_of r.program) op)) plain.falls ∙ plain.needs_so

  pub plain_there : (needed taken given : ℕ) → IsForHost (setting_of r.program) op needed taken given → needed ≤ length s.machine.operands
  plain_there needed taken given plain = let h = at.finds.meets.operands in let e = plain.needs_so in omega (arith, h, e)

  pub plain_keeps : (needed taken given : ℕ) → IsForHost (setting_of r.program) op needed taken given → (others : List V) → KeepsOperands (below needed s.machine.operands ++ others)
  plain_keeps needed taken given plain others =
      subst (λ (n : ℕ). KeepsFirst (length s.machine.operands - n) s.machine.operands (below needed s.machine.operands ++ others)) (sym (plain_touched needed taken given plain))
      (kept_before (length s.machine.operands - needed) s.machine.operands others (omega arith))

  -- it leaves others in their place
  pub plain_went : (needed taken given : ℕ) → IsForHost (setting_of r.program) op needed taken given → taken ≤ needed → (others : List V)
      → length others ≡ needed - taken + given → MakesMove r s (filled behind (below needed s.machine.operands ++ others) s.machine.iterators s.machine.handlers s.room)
  plain_went needed taken given plain within others long =
      let xs = below needed s.machine.operands ++ others in
      let there : needed ≤ length s.machine.operands = plain_there needed taken given plain in
      let left : length xs ≡ length s.machine.operands - needed + length others = length-replaced needed s.machine.operands others in
      record {
        goes = plain_on r (state_of s) op behind needed taken given (length xs) at plain (omega (arith, there, left, long, within));
        passes = record {
          op = op;
          stands = at.finds.stands.is;
          operands = plain_keeps needed taken given plain others;
          iterators = kept_self _ _;
          rotates = λ depth e. absurd (no_rotation op plain.sounds depth e);
        };
      }

  -- or fails, and has changed them
  pub plain_back : (x t : FrameState V I) (needed taken given : ℕ) → IsForHost (setting_of r.program) op needed taken given → Replaces needed needed s x
      → Lands x.machine t.machine → t.room ≡ x.room → MakesMove r s t
  plain_back x t needed taken given plain (others, long, e) =
      let xs = below needed s.machine.operands ++ others in
      let there : needed ≤ length s.machine.operands = plain_there needed taken given plain in
      let left : length xs ≡ length s.machine.operands - needed + length others = length-replaced needed s.machine.operands others in
      subst (λ (y : FrameState V I). Lands y.machine t.machine → t.room ≡ y.room → MakesMove r s t) (sym e)
      (fell_back (frame_with_operands xs s) t plain.sounds refl (omega (arith, there, left, long)) (omega (arith, there, left, long)) refl refl
      (plain_keeps needed taken given plain others) (kept_self _ _))
