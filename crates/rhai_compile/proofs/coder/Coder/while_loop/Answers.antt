use Rattle.std.proofs.Common.{◌≡◌, ◌+◌, ◌-◌, ap, refl, sym, ◌∙◌}
use Rattle.grain_builder.specs.Unfinished.{Level, StaysIn, spot}
use Rattle.rhai_compile.proofs.FormParts.{on_ok, own_pass}
use Rattle.rhai_compile.proofs.Staying.{condition_gone, floor_same, found_there, none_more, open_again, places_same, room_given, spot_same, stands_tested, stays_same, written_bound}
use Rattle.rhai_emit.proofs.PlaceTests.{and_both, and_left, and_right}
use Rattle.rhai_emit.specs.Loops.{count}
use Rattle.rhai_emit.specs.Places.{both, expr_places, list_places, pass}
use Rattle.rhai_compile.proofs.coder.Coder.while_loop.Goals as goal

pub turn-requires-clause-stands : goal.turn-requires-clause-stands
turn-requires-clause-stands g c = c.in_ok-inner.ensures.stands

pub expr-requires-clause-stands : goal.expr-requires-clause-stands
expr-requires-clause-stands g c = c.in_ok-turn.ensures.stands

pub block-requires-clause-stands : goal.block-requires-clause-stands
block-requires-clause-stands g c = stands_tested c.turn.new.self c.expr.new.emitter c.jump_where.new.self c.in_ok-expr.ensures.written c.in_ok-jump_where.ensures.written c.in_ok-turn.ensures.stands

pub returns-clause-written : goal.returns-clause-written
returns-clause-written g c =
    let old = c.args.emitter.now in
    let end = c.in_ok-end.ensures in
    let exit = c.in_ok-exit.ensures in
    let begun = c.in_ok-inner.ensures in
    let turned = c.in_ok-turn.ensures in
    let condition = c.in_ok-expr.ensures.written in
    let tested = c.in_ok-jump_where.ensures.written in
    let body = c.in_ok-block.ensures.written in
    let jumped = c.in_ok-jump.ensures.leaves in
    let resumed = c.in_ok-resume.ensures in
    let bound = c.in_ok-bind.ensures in
    let given = c.in_ok-nothing.ensures.written in
    let new = record c.nothing.new.self { code = c.bind-2.new.self } in
    let labels : StaysIn c.label.new.self.labels c.nothing.new.self.code.labels =
    λ i x h. given.labels i x
    (stays_same c.label.new.self.labels c.block.new.emitter.code.labels c.bind.new.self.labels
    (λ j y k. body.labels j y (tested.labels j y (condition.labels j y (turned.labels j y (begun.labels j y (exit.labels j y k))))))
    (bound.labels ∙ (resumed.labels.labels ∙ jumped.labels)) i x h) in
    let outers : StaysIn c.label.new.self.outers c.nothing.new.self.code.outers =
    λ i x h. given.outers i x
    (stays_same c.label.new.self.outers c.block.new.emitter.code.outers c.bind.new.self.outers
    (λ j y k. body.outers j y (tested.outers j y (condition.outers j y (turned.outers j y (begun.outers j y (exit.outers j y k))))))
    (bound.outers ∙ (resumed.labels.outers ∙ jumped.outers)) i x h) in
    written_bound old c.nothing.new.self.code new (old.code.operands + count c.args.is_wanted) c.in_ok-end.end c.bind-2.result
    (given.operands ∙ ap (λ n. n + count c.args.is_wanted) (bound.operands ∙ (resumed.operands ∙ c.operands-height.ensures.value)))
    (given.level ∙ (bound.level ∙ (resumed.level ∙ c.in_ok-outer.ensures)))
    (λ i x h. labels i x (end.labels i x h))
    (λ i x h. outers i x (end.outers i x h))
    (outers c.in_ok-end.end _ end.outer)
    given.loop
    c.bind-2.ensures.pending c.bind-2.ensures.labels c.bind-2.ensures.outers c.bind-2.ensures.operands c.bind-2.ensures.level

pub returns-clause-placed : goal.returns-clause-placed
returns-clause-placed g c =
    on_ok c.bind-2.result
    (λ same test these old.
    let condition = c.args.condition.now in
    let here = and_left (test c.args.place) (pass test (both (expr_places condition) (list_places c.args.body.now))) these in
    let rest = and_right (test c.args.place) (pass test (both (expr_places condition) (list_places c.args.body.now))) these in
    let first = and_left (pass test (expr_places condition)) (pass test (list_places c.args.body.now)) rest in
    let body = and_right (pass test (expr_places condition)) (pass test (list_places c.args.body.now)) rest in
    let begun = c.in_ok-inner.ensures.places ∙ (c.in_ok-exit.ensures.places ∙ c.in_ok-end.ensures.places) in
    places_same test c.nothing.new.self.code.places _ same
    (c.in_ok-nothing.ensures.placed test here
    (places_same test c.jump.new.self.places c.bind.new.self.places (c.in_ok-bind.ensures.places ∙ c.in_ok-resume.ensures.places)
    (c.in_ok-jump.ensures.placed test here
    (c.in_ok-block.ensures.placed test (and_both (test c.args.place) (pass test (list_places c.args.body.now)) here body)
    (c.in_ok-jump_where.ensures.placed test (own_pass test condition first)
    (c.in_ok-expr.ensures.placed test first
    (c.in_ok-turn.ensures.placed test here
    (places_same test c.args.emitter.now.code.places c.begin_loop.new.self.code.places begun old)))))))))
    c.bind-2.ensures.places

pub begin_loop-requires-clause-floor : goal.begin_loop-requires-clause-floor
begin_loop-requires-clause-floor g c =
    floor_same c.label-2.new.self.operands c.args.emitter.now.code.operands c.label-2.new.self.level c.args.emitter.now.code.level (c.in_ok-exit.ensures.operands ∙ c.in_ok-end.ensures.operands) (c.in_ok-exit.ensures.level ∙ c.in_ok-end.ensures.level) c.requires.stands.floor

pub turn-requires-clause-here : goal.turn-requires-clause-here
turn-requires-clause-here g c =
    let begun = c.in_ok-inner.ensures in
    let code = c.begin_loop.new.self.code in
    let old = c.label-2.new.self in
    found_there code.labels code.labels c.in_ok-inner.inner.next (spot old.operands old.level) (spot code.operands code.level) (λ i x h. h) begun.next
    (spot_same old.operands code.operands old.level code.level (sym begun.operands) (ap (λ (l : Level). l.iterators) (sym begun.level)) (ap (λ (l : Level). l.bases) (sym begun.level)) (ap (λ (l : Level). l.home) (sym begun.level)))

pub turn-requires-clause-innermost : goal.turn-requires-clause-innermost
turn-requires-clause-innermost g c = c.in_ok-inner.ensures.pending

pub jump_where-requires-clause-room : goal.jump_where-requires-clause-room
jump_where-requires-clause-room g c = room_given c.turn.new.self c.expr.new.emitter c.in_ok-expr.ensures.written c.in_ok-turn.ensures.stands

pub jump_where-requires-clause-there : goal.jump_where-requires-clause-there
jump_where-requires-clause-there g c =
    let end = c.in_ok-end.ensures in
    let exit = c.in_ok-exit.ensures in
    let begun = c.in_ok-inner.ensures in
    let turned = c.in_ok-turn.ensures in
    let condition = c.in_ok-expr.ensures.written in
    let code = c.expr.new.emitter.code in
    let old = c.label.new.self in
    let height = c.operands-height.result in
    let same = sym (condition.level ∙ (turned.level ∙ begun.level)) in
    let left : code.operands - 1 ≡ height =
    condition_gone height code.operands (code.operands - 1) (condition.operands ∙ ap (λ n. n + 1) (turned.operands ∙ (begun.operands ∙ (exit.operands ∙ (end.operands ∙ sym c.operands-height.ensures.value))))) refl in
    found_there c.label-2.new.self.labels code.labels c.in_ok-exit.exit (spot height old.level) (spot (code.operands - 1) code.level) (λ i x h. condition.labels i x (turned.labels i x (begun.labels i x h))) exit.here
    (spot_same height (code.operands - 1) old.level code.level (sym left) (ap (λ (l : Level). l.iterators) (sym exit.level) ∙ ap (λ (l : Level). l.iterators) same) (ap (λ (l : Level). l.bases) (sym exit.level) ∙ ap (λ (l : Level). l.bases) same) (ap (λ (l : Level). l.home) (sym exit.level) ∙ ap (λ (l : Level). l.home) same))

pub jump-requires-clause-there : goal.jump-requires-clause-there
jump-requires-clause-there g c =
    let begun = c.in_ok-inner.ensures in
    let turned = c.in_ok-turn.ensures in
    let condition = c.in_ok-expr.ensures.written in
    let tested = c.in_ok-jump_where.ensures.written in
    let body = c.in_ok-block.ensures.written in
    let old = c.label-2.new.self in
    let code = c.block.new.emitter.code in
    let same = sym (body.level ∙ (tested.level ∙ (condition.level ∙ (turned.level ∙ begun.level)))) in
    let left = condition_gone c.turn.new.self.code.operands c.expr.new.emitter.code.operands c.jump_where.new.self.code.operands condition.operands tested.operands in
    let operands = none_more code.operands c.jump_where.new.self.code.operands body.operands ∙ (left ∙ (turned.operands ∙ begun.operands)) in
    found_there c.begin_loop.new.self.code.labels code.labels c.in_ok-inner.inner.next (spot old.operands old.level) (spot code.operands code.level) (λ i x h. body.labels i x (tested.labels i x (condition.labels i x (turned.labels i x h)))) begun.next
    (spot_same old.operands code.operands old.level code.level (sym operands) (ap (λ (l : Level). l.iterators) same) (ap (λ (l : Level). l.bases) same) (ap (λ (l : Level). l.home) same))

pub jump-requires-clause-room : goal.jump-requires-clause-room
jump-requires-clause-room g c =
    let condition = c.in_ok-expr.ensures.written in
    let tested = c.in_ok-jump_where.ensures.written in
    let body = c.in_ok-block.ensures.written in
    let left = condition_gone c.turn.new.self.code.operands c.expr.new.emitter.code.operands c.jump_where.new.self.code.operands condition.operands tested.operands in
    floor_same c.block.new.emitter.code.operands c.turn.new.self.code.operands c.block.new.emitter.code.level c.turn.new.self.code.level
    (none_more c.block.new.emitter.code.operands c.jump_where.new.self.code.operands body.operands ∙ left)
    (body.level ∙ (tested.level ∙ condition.level)) c.in_ok-turn.ensures.stands.floor

pub resume-requires-clause-loose : goal.resume-requires-clause-loose
resume-requires-clause-loose g c = c.in_ok-jump.ensures.loose

pub resume-requires-clause-home : goal.resume-requires-clause-home
resume-requires-clause-home g c =
    let same = c.in_ok-jump.ensures.leaves.level ∙ (c.in_ok-block.ensures.written.level ∙ (c.in_ok-jump_where.ensures.written.level ∙ (c.in_ok-expr.ensures.written.level ∙ (c.in_ok-turn.ensures.level ∙ c.in_ok-inner.ensures.level)))) in
    ap (λ (l : Level). l.home) (c.in_ok-outer.ensures ∙ sym (c.in_ok-exit.ensures.level ∙ c.in_ok-end.ensures.level)) ∙ sym (ap (λ (l : Level). l.home) same)

pub bind-requires-clause-here : goal.bind-requires-clause-here
bind-requires-clause-here g c =
    let exit = c.in_ok-exit.ensures in
    let begun = c.in_ok-inner.ensures in
    let turned = c.in_ok-turn.ensures in
    let condition = c.in_ok-expr.ensures.written in
    let tested = c.in_ok-jump_where.ensures.written in
    let body = c.in_ok-block.ensures.written in
    let resumed = c.in_ok-resume.ensures in
    let code = c.resume.new.self in
    let old = c.label.new.self in
    let height = c.operands-height.result in
    let same = c.in_ok-end.ensures.level ∙ sym (resumed.level ∙ c.in_ok-outer.ensures) in
    found_there c.label-2.new.self.labels code.labels c.in_ok-exit.exit (spot height old.level) (spot code.operands code.level)
    (stays_same c.label-2.new.self.labels c.block.new.emitter.code.labels code.labels (λ i x h. body.labels i x (tested.labels i x (condition.labels i x (turned.labels i x (begun.labels i x h))))) (resumed.labels.labels ∙ c.in_ok-jump.ensures.leaves.labels))
    exit.here
    (spot_same height code.operands old.level code.level (sym resumed.operands) (ap (λ (l : Level). l.iterators) same) (ap (λ (l : Level). l.bases) same) (ap (λ (l : Level). l.home) same))

pub bind-requires-clause-innermost : goal.bind-requires-clause-innermost
bind-requires-clause-innermost g c =
    let pending = c.in_ok-resume.ensures.labels.pending ∙ (c.in_ok-jump.ensures.leaves.pending ∙ (c.in_ok-block.ensures.written.pending ∙ (c.in_ok-jump_where.ensures.written.pending ∙ c.in_ok-expr.ensures.written.pending))) in
    pending ∙ (open_again c.begin_loop.new.self.code.outers c.in_ok-inner.inner.next c.label-2.new.self.pending c.turn.new.self.code.pending c.in_ok-inner.ensures.outer c.in_ok-turn.ensures.pending ∙ c.in_ok-exit.ensures.pending)

pub nothing-requires : goal.nothing-requires
nothing-requires g c =
    floor_same c.bind.new.self.operands c.args.emitter.now.code.operands c.bind.new.self.level c.args.emitter.now.code.level
    (c.in_ok-bind.ensures.operands ∙ (c.in_ok-resume.ensures.operands ∙ c.operands-height.ensures.value))
    (c.in_ok-bind.ensures.level ∙ (c.in_ok-resume.ensures.level ∙ c.in_ok-outer.ensures)) c.requires.stands.floor

pub bind-requires-2-clause-here : goal.bind-requires-2-clause-here
bind-requires-2-clause-here g c =
    let exit = c.in_ok-exit.ensures in
    let begun = c.in_ok-inner.ensures in
    let turned = c.in_ok-turn.ensures in
    let condition = c.in_ok-expr.ensures.written in
    let tested = c.in_ok-jump_where.ensures.written in
    let body = c.in_ok-block.ensures.written in
    let resumed = c.in_ok-resume.ensures in
    let bound = c.in_ok-bind.ensures in
    let given = c.in_ok-nothing.ensures.written in
    let code = c.nothing.new.self.code in
    let old = c.args.emitter.now.code in
    let same = sym (given.level ∙ (bound.level ∙ (resumed.level ∙ c.in_ok-outer.ensures))) in
    found_there c.label.new.self.labels code.labels c.in_ok-end.end (spot c.height_with.result old.level) (spot code.operands code.level)
    (λ i x h. given.labels i x
    (stays_same c.label.new.self.labels c.block.new.emitter.code.labels c.bind.new.self.labels (λ j y k. body.labels j y (tested.labels j y (condition.labels j y (turned.labels j y (begun.labels j y (exit.labels j y k)))))) (bound.labels ∙ (resumed.labels.labels ∙ c.in_ok-jump.ensures.leaves.labels)) i x h))
    c.in_ok-end.ensures.here
    (spot_same c.height_with.result code.operands old.level code.level (c.height_with.ensures ∙ sym (given.operands ∙ ap (λ n. n + count c.args.is_wanted) (bound.operands ∙ resumed.operands))) (ap (λ (l : Level). l.iterators) same) (ap (λ (l : Level). l.bases) same) (ap (λ (l : Level). l.home) same))

pub bind-requires-2-clause-innermost : goal.bind-requires-2-clause-innermost
bind-requires-2-clause-innermost g c =
    let begun = c.in_ok-inner.ensures in
    let turned = c.in_ok-turn.ensures in
    let condition = c.in_ok-expr.ensures.written in
    let tested = c.in_ok-jump_where.ensures.written in
    let body = c.in_ok-block.ensures.written in
    let outers = stays_same c.label-2.new.self.outers c.block.new.emitter.code.outers c.resume.new.self.outers (λ i x h. body.outers i x (tested.outers i x (condition.outers i x (turned.outers i x (begun.outers i x h))))) (c.in_ok-resume.ensures.labels.outers ∙ c.in_ok-jump.ensures.leaves.outers) in
    c.in_ok-nothing.ensures.written.pending ∙ (open_again c.resume.new.self.outers c.in_ok-exit.exit c.label.new.self.pending c.bind.new.self.pending (outers c.in_ok-exit.exit c.label.new.self.pending c.in_ok-exit.ensures.outer) c.in_ok-bind.ensures.pending ∙ c.in_ok-end.ensures.pending)
