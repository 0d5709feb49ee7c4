use Rattle.std.proofs.Common.{◌≡◌, ℕ, List, ap, sym, ◌∙◌}
use Rattle.std.specs.Prelude.{slice_get}
use Rattle.grain_rules.specs.Counts.{without_last}
use Rattle.grain_builder.specs.Unfinished.{Level, Spot, StaysIn, level_with_handler, spot}
use Rattle.rhai_compile.proofs.Staying.{floor_same, found_there, handler_armed, none_more, open_again, places_same, spot_same, stands_labelled, stays_same}
use Rattle.rhai_emit.proofs.PlaceTests.{and_left}
use Rattle.rhai_emit.specs.Places.{list_places, pass}
use Rattle.rhai_emit.specs.declared.scope.Scope.{Scope}
use Rattle.rhai_compile.proofs.coder.Coder.guarded.Goals as goal

pub arm-requires-clause-stands : goal.arm-requires-clause-stands
arm-requires-clause-stands g c =
    let target = c.in_ok-target.ensures in
    stands_labelled c.args.emitter.now c.catch_label.new.self target.operands target.level target.labels c.requires.stands

pub arm-requires-clause-there : goal.arm-requires-clause-there
arm-requires-clause-there g c =
    let target = c.in_ok-target.ensures in
    let old = c.args.emitter.now.code in
    let code = c.catch_label.new.self in
    let same : level_with_handler old.operands old.level ≡ level_with_handler code.operands code.level =
    ap (λ (l : Level). level_with_handler old.operands l) (sym target.level) ∙ ap (λ n. level_with_handler n code.level) (sym target.operands) in
    found_there code.labels code.labels c.in_ok-target.target (spot old.operands (level_with_handler old.operands old.level)) (spot code.operands (level_with_handler code.operands code.level)) (λ i x h. h) target.here
    (spot_same old.operands code.operands (level_with_handler old.operands old.level) (level_with_handler code.operands code.level) (sym target.operands) (ap (λ (l : Level). l.iterators) same) (ap (λ (l : Level). l.bases) same) (ap (λ (l : Level). l.home) same))

pub block-requires-clause-stands : goal.block-requires-clause-stands
block-requires-clause-stands g c = c.in_ok-arm.ensures.stands

pub disarm-requires-clause-armed : goal.disarm-requires-clause-armed
disarm-requires-clause-armed g c =
    let armed = c.in_ok-block.ensures.written.level ∙ c.in_ok-arm.ensures.level in
    handler_armed c.catch_label.new.self.operands c.catch_label.new.self.level c.block.new.emitter.code.level armed

pub disarm-requires-clause-bases : goal.disarm-requires-clause-bases
disarm-requires-clause-bases g c =
    let armed = c.in_ok-block.ensures.written.level ∙ c.in_ok-arm.ensures.level in
    ap (λ (l : Level). l.bases) (c.in_ok-outer.ensures ∙ sym c.in_ok-target.ensures.level) ∙ sym (ap (λ (l : Level). without_last l.bases) armed)

pub disarm-requires-clause-iterators : goal.disarm-requires-clause-iterators
disarm-requires-clause-iterators g c =
    let armed = c.in_ok-block.ensures.written.level ∙ c.in_ok-arm.ensures.level in
    ap (λ (l : Level). l.iterators) (c.in_ok-outer.ensures ∙ sym c.in_ok-target.ensures.level) ∙ sym (ap (λ (l : Level). l.iterators) armed)

pub disarm-requires-clause-home : goal.disarm-requires-clause-home
disarm-requires-clause-home g c =
    let armed = c.in_ok-block.ensures.written.level ∙ c.in_ok-arm.ensures.level in
    ap (λ (l : Level). l.home) (c.in_ok-outer.ensures ∙ sym c.in_ok-target.ensures.level) ∙ sym (ap (λ (l : Level). l.home) armed)

pub jump-requires-clause-there : goal.jump-requires-clause-there
jump-requires-clause-there g c =
    let target = c.in_ok-target.ensures in
    let armed = c.in_ok-arm.ensures in
    let body = c.in_ok-block.ensures.written in
    let disarmed = c.in_ok-disarm.ensures in
    let old = c.args.emitter.now.code in
    let code = c.disarm.new.self in
    let operands = disarmed.operands ∙ (none_more c.block.new.emitter.code.operands c.arm.new.self.code.operands body.operands ∙ (armed.operands ∙ target.operands)) in
    let same = sym (disarmed.level ∙ c.in_ok-outer.ensures) in
    found_there old.labels code.labels c.args.end (spot old.operands old.level) (spot code.operands code.level)
    (λ i x h. stays_same c.arm.new.self.code.labels c.block.new.emitter.code.labels code.labels body.labels disarmed.labels.labels i x
    (stays_same old.labels c.catch_label.new.self.labels c.arm.new.self.code.labels target.labels armed.labels.labels i x h))
    c.requires.there
    (spot_same old.operands code.operands old.level code.level (sym operands) (ap (λ (l : Level). l.iterators) same) (ap (λ (l : Level). l.bases) same) (ap (λ (l : Level). l.home) same))

pub jump-requires-clause-room : goal.jump-requires-clause-room
jump-requires-clause-room g c =
    let target = c.in_ok-target.ensures in
    let armed = c.in_ok-arm.ensures in
    let body = c.in_ok-block.ensures.written in
    let disarmed = c.in_ok-disarm.ensures in
    floor_same c.disarm.new.self.operands c.args.emitter.now.code.operands c.disarm.new.self.level c.args.emitter.now.code.level
    (disarmed.operands ∙ (none_more c.block.new.emitter.code.operands c.arm.new.self.code.operands body.operands ∙ (armed.operands ∙ target.operands)))
    (disarmed.level ∙ c.in_ok-outer.ensures) c.requires.stands.floor

pub resume-requires-clause-loose : goal.resume-requires-clause-loose
resume-requires-clause-loose g c = c.in_ok-jump.ensures.loose

pub resume-requires-clause-home : goal.resume-requires-clause-home
resume-requires-clause-home g c =
    ap (λ (l : Level). l.home) (c.in_ok-inner.ensures ∙ c.in_ok-arm.ensures.level) ∙ (ap (λ (l : Level). l.home) c.in_ok-target.ensures.level ∙ sym (ap (λ (l : Level). l.home) (c.in_ok-jump.ensures.leaves.level ∙ (c.in_ok-disarm.ensures.level ∙ c.in_ok-outer.ensures))))

pub bind-requires-clause-here : goal.bind-requires-clause-here
bind-requires-clause-here g c =
    let target = c.in_ok-target.ensures in
    let armed = c.in_ok-arm.ensures in
    let body = c.in_ok-block.ensures.written in
    let resumed = c.in_ok-resume.ensures in
    let old = c.args.emitter.now.code in
    let made = c.catch_label.new.self in
    let code = c.resume.new.self in
    let same = sym (resumed.level ∙ (c.in_ok-inner.ensures ∙ armed.level)) in
    let again : level_with_handler old.operands old.level ≡ level_with_handler made.operands made.level =
    ap (λ (l : Level). level_with_handler old.operands l) (sym target.level) ∙ ap (λ n. level_with_handler n made.level) (sym target.operands) in
    found_there made.labels code.labels c.in_ok-target.target (spot old.operands (level_with_handler old.operands old.level)) (spot code.operands code.level)
    (λ i x h. stays_same c.arm.new.self.code.labels c.block.new.emitter.code.labels code.labels body.labels (resumed.labels.labels ∙ (c.in_ok-jump.ensures.leaves.labels ∙ c.in_ok-disarm.ensures.labels.labels)) i x
    (ap (λ (ls : List Spot). slice_get ls i) armed.labels.labels ∙ h))
    target.here
    (spot_same old.operands code.operands (level_with_handler old.operands old.level) code.level (sym (resumed.operands ∙ c.operands-height.ensures.value)) (ap (λ (l : Level). l.iterators) (again ∙ same)) (ap (λ (l : Level). l.bases) (again ∙ same)) (ap (λ (l : Level). l.home) (again ∙ same)))

pub bind-requires-clause-innermost : goal.bind-requires-clause-innermost
bind-requires-clause-innermost g c =
    c.in_ok-resume.ensures.labels.pending ∙ (c.in_ok-jump.ensures.leaves.pending ∙ (c.in_ok-disarm.ensures.labels.pending ∙ (c.in_ok-block.ensures.written.pending ∙ (c.in_ok-arm.ensures.labels.pending ∙ c.in_ok-target.ensures.pending))))

pub unwind-requires : goal.unwind-requires
unwind-requires g c =
    floor_same c.bind.new.self.operands c.arm.new.self.code.operands c.bind.new.self.level c.arm.new.self.code.level
    (c.in_ok-bind.ensures.operands ∙ (c.in_ok-resume.ensures.operands ∙ (c.operands-height.ensures.value ∙ sym (c.in_ok-arm.ensures.operands ∙ c.in_ok-target.ensures.operands))))
    (c.in_ok-bind.ensures.level ∙ (c.in_ok-resume.ensures.level ∙ c.in_ok-inner.ensures)) c.in_ok-arm.ensures.stands.floor

pub disarm-requires-2-clause-armed : goal.disarm-requires-2-clause-armed
disarm-requires-2-clause-armed g c =
    let armed = c.in_ok-unwind.ensures.written.level ∙ (c.in_ok-bind.ensures.level ∙ (c.in_ok-resume.ensures.level ∙ (c.in_ok-inner.ensures ∙ c.in_ok-arm.ensures.level))) in
    handler_armed c.catch_label.new.self.operands c.catch_label.new.self.level c.unwind.new.self.code.level armed

pub disarm-requires-2-clause-bases : goal.disarm-requires-2-clause-bases
disarm-requires-2-clause-bases g c =
    let armed = c.in_ok-unwind.ensures.written.level ∙ (c.in_ok-bind.ensures.level ∙ (c.in_ok-resume.ensures.level ∙ (c.in_ok-inner.ensures ∙ c.in_ok-arm.ensures.level))) in
    ap (λ (l : Level). l.bases) ((c.in_ok-around.ensures ∙ c.in_ok-outer.ensures) ∙ sym c.in_ok-target.ensures.level) ∙ sym (ap (λ (l : Level). without_last l.bases) armed)

pub disarm-requires-2-clause-iterators : goal.disarm-requires-2-clause-iterators
disarm-requires-2-clause-iterators g c =
    let armed = c.in_ok-unwind.ensures.written.level ∙ (c.in_ok-bind.ensures.level ∙ (c.in_ok-resume.ensures.level ∙ (c.in_ok-inner.ensures ∙ c.in_ok-arm.ensures.level))) in
    ap (λ (l : Level). l.iterators) ((c.in_ok-around.ensures ∙ c.in_ok-outer.ensures) ∙ sym c.in_ok-target.ensures.level) ∙ sym (ap (λ (l : Level). l.iterators) armed)

pub disarm-requires-2-clause-home : goal.disarm-requires-2-clause-home
disarm-requires-2-clause-home g c =
    let armed = c.in_ok-unwind.ensures.written.level ∙ (c.in_ok-bind.ensures.level ∙ (c.in_ok-resume.ensures.level ∙ (c.in_ok-inner.ensures ∙ c.in_ok-arm.ensures.level))) in
    ap (λ (l : Level). l.home) ((c.in_ok-around.ensures ∙ c.in_ok-outer.ensures) ∙ sym c.in_ok-target.ensures.level) ∙ sym (ap (λ (l : Level). l.home) armed)

pub returns-clause-written : goal.returns-clause-written
returns-clause-written g c =
    let old = c.args.emitter.now in
    let target = c.in_ok-target.ensures in
    let armed = c.in_ok-arm.ensures in
    let body = c.in_ok-block.ensures.written in
    let disarmed = c.in_ok-disarm.ensures in
    let jumped = c.in_ok-jump.ensures.leaves in
    let resumed = c.in_ok-resume.ensures in
    let bound = c.in_ok-bind.ensures in
    let unwound = c.in_ok-unwind.ensures.written in
    let last = c.in_ok-disarm-2.ensures in
    let outers : StaysIn c.catch_label.new.self.outers c.resume.new.self.outers =
    λ i x h. stays_same c.arm.new.self.code.outers c.block.new.emitter.code.outers c.resume.new.self.outers body.outers (resumed.labels.outers ∙ (jumped.outers ∙ disarmed.labels.outers)) i x (ap (λ (ls : List ℕ). slice_get ls i) armed.labels.outers ∙ h) in
    record {
      operands = last.operands ∙ (unwound.operands ∙ (bound.operands ∙ (resumed.operands ∙ c.operands-height.ensures.value)));
      level = last.level ∙ (c.in_ok-around.ensures ∙ c.in_ok-outer.ensures);
      labels = λ i x h.
          ap (λ (ls : List Spot). slice_get ls i) last.labels.labels ∙ unwound.labels i x
          (stays_same c.arm.new.self.code.labels c.block.new.emitter.code.labels c.bind.new.self.labels body.labels (bound.labels ∙ (resumed.labels.labels ∙ (jumped.labels ∙ disarmed.labels.labels))) i x
          (ap (λ (ls : List Spot). slice_get ls i) armed.labels.labels ∙ target.labels i x h));
      outers = λ i x h.
          ap (λ (ls : List ℕ). slice_get ls i) last.labels.outers ∙ unwound.outers i x
          (ap (λ (ls : List ℕ). slice_get ls i) bound.outers ∙ outers i x (target.outers i x h));
      pending = last.labels.pending ∙ (unwound.pending ∙ open_again c.resume.new.self.outers c.in_ok-target.target old.code.pending c.bind.new.self.pending (outers c.in_ok-target.target old.code.pending target.outer) bound.pending);
      loop = unwound.loop ∙ (body.loop ∙ ap (λ (s : Scope). s.around) armed.scope);
    }

pub returns-clause-placed : goal.returns-clause-placed
returns-clause-placed g c =
    λ test these old.
    let here = and_left (test c.args.place) (pass test (list_places c.args.body.now)) these in
    c.in_ok-disarm-2.ensures.placed test here
    (c.in_ok-unwind.ensures.placed test here
    (places_same test c.jump.new.self.places c.bind.new.self.places (c.in_ok-bind.ensures.places ∙ c.in_ok-resume.ensures.places)
    (c.in_ok-jump.ensures.placed test here
    (c.in_ok-disarm.ensures.placed test here
    (c.in_ok-block.ensures.placed test these
    (c.in_ok-arm.ensures.placed test here
    (places_same test c.args.emitter.now.code.places c.catch_label.new.self.places c.in_ok-target.ensures.places old)))))))
