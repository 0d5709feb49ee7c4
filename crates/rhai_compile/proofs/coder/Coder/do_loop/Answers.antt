use Rattle.std.proofs.Common.{◌≡◌, ◌+◌, ◌-◌, ap, refl, sym, ◌∙◌}
use Rattle.grain_builder.specs.Unfinished.{Level, StaysIn, spot}
use Rattle.rhai_compile.proofs.FormParts.{own_pass}
use Rattle.rhai_compile.proofs.Staying.{condition_gone, floor_same, found_there, none_more, open_again, places_same, room_given, spot_same, stands_labelled, stands_raised, stays_same}
use Rattle.rhai_emit.proofs.PlaceTests.{and_both, and_left, and_right}
use Rattle.rhai_emit.specs.Loops.{count}
use Rattle.rhai_emit.specs.Places.{both, expr_places, list_places, pass}
use Rattle.rhai_compile.proofs.coder.Coder.do_loop.Goals as goal

pub begin_loop-requires-clause-floor : goal.begin_loop-requires-clause-floor
begin_loop-requires-clause-floor g c = floor_same c.label.new.self.operands c.args.emitter.now.code.operands c.label.new.self.level c.args.emitter.now.code.level c.in_ok-end.ensures.operands c.in_ok-end.ensures.level c.requires.stands.floor

pub turn-requires-clause-stands : goal.turn-requires-clause-stands
turn-requires-clause-stands g c =
    let start = c.in_ok-start.ensures in
    stands_labelled c.begin_loop.new.self c.label-2.new.self start.operands start.level start.labels c.in_ok-inner.ensures.stands

pub turn-requires-clause-here : goal.turn-requires-clause-here
turn-requires-clause-here g c =
    let start = c.in_ok-start.ensures in
    let code = c.label-2.new.self in
    let old = c.begin_loop.new.self.code in
    let height = c.operands-height.result in
    found_there code.labels code.labels c.in_ok-start.start (spot height old.level) (spot code.operands code.level) (λ i x h. h) start.here
    (spot_same height code.operands old.level code.level (c.operands-height.ensures.value ∙ sym (start.operands ∙ (c.in_ok-inner.ensures.operands ∙ c.in_ok-end.ensures.operands))) (ap (λ (l : Level). l.iterators) (sym start.level)) (ap (λ (l : Level). l.bases) (sym start.level)) (ap (λ (l : Level). l.home) (sym start.level)))

pub turn-requires-clause-innermost : goal.turn-requires-clause-innermost
turn-requires-clause-innermost g c = c.in_ok-start.ensures.pending

pub block-requires-clause-stands : goal.block-requires-clause-stands
block-requires-clause-stands g c = c.in_ok-turn.ensures.stands

pub bind-requires-clause-stands : goal.bind-requires-clause-stands
bind-requires-clause-stands g c = stands_raised c.turn.new.self c.block.new.emitter 0 c.in_ok-block.ensures.written c.in_ok-turn.ensures.stands

pub bind-requires-clause-here : goal.bind-requires-clause-here
bind-requires-clause-here g c =
    let begun = c.in_ok-inner.ensures in
    let start = c.in_ok-start.ensures in
    let turned = c.in_ok-turn.ensures in
    let body = c.in_ok-block.ensures.written in
    let old = c.label.new.self in
    let code = c.block.new.emitter.code in
    let same = sym (body.level ∙ (turned.level ∙ (start.level ∙ begun.level))) in
    let operands = none_more code.operands c.turn.new.self.code.operands body.operands ∙ (turned.operands ∙ (start.operands ∙ begun.operands)) in
    found_there c.begin_loop.new.self.code.labels code.labels c.in_ok-inner.inner.next (spot old.operands old.level) (spot code.operands code.level) (λ i x h. body.labels i x (turned.labels i x (start.labels i x h))) begun.next
    (spot_same old.operands code.operands old.level code.level (sym operands) (ap (λ (l : Level). l.iterators) same) (ap (λ (l : Level). l.bases) same) (ap (λ (l : Level). l.home) same))

pub bind-requires-clause-innermost : goal.bind-requires-clause-innermost
bind-requires-clause-innermost g c =
    c.in_ok-block.ensures.written.pending ∙ (open_again c.label-2.new.self.outers c.in_ok-start.start c.begin_loop.new.self.code.pending c.turn.new.self.code.pending c.in_ok-start.ensures.outer c.in_ok-turn.ensures.pending ∙ c.in_ok-inner.ensures.pending)

pub expr-requires-clause-stands : goal.expr-requires-clause-stands
expr-requires-clause-stands g c = c.in_ok-bind.ensures.stands

pub jump_where-requires-clause-room : goal.jump_where-requires-clause-room
jump_where-requires-clause-room g c = room_given c.bind.new.self c.expr.new.emitter c.in_ok-expr.ensures.written c.in_ok-bind.ensures.stands

pub jump_where-requires-clause-there : goal.jump_where-requires-clause-there
jump_where-requires-clause-there g c =
    let start = c.in_ok-start.ensures in
    let turned = c.in_ok-turn.ensures in
    let body = c.in_ok-block.ensures.written in
    let bound = c.in_ok-bind.ensures in
    let condition = c.in_ok-expr.ensures.written in
    let code = c.expr.new.emitter.code in
    let old = c.begin_loop.new.self.code in
    let height = c.operands-height.result in
    let same = sym (condition.level ∙ (bound.level ∙ (body.level ∙ (turned.level ∙ start.level)))) in
    let operands = none_more c.block.new.emitter.code.operands c.turn.new.self.code.operands body.operands ∙ (turned.operands ∙ (start.operands ∙ (c.in_ok-inner.ensures.operands ∙ (c.in_ok-end.ensures.operands ∙ sym c.operands-height.ensures.value)))) in
    let left : code.operands - 1 ≡ height = condition_gone height code.operands (code.operands - 1) (condition.operands ∙ ap (λ n. n + 1) (bound.operands ∙ operands)) refl in
    found_there c.label-2.new.self.labels code.labels c.in_ok-start.start (spot height old.level) (spot (code.operands - 1) code.level)
    (λ i x h. condition.labels i x (stays_same c.label-2.new.self.labels c.block.new.emitter.code.labels c.bind.new.self.code.labels (λ j y k. body.labels j y (turned.labels j y k)) bound.labels i x h))
    start.here
    (spot_same height (code.operands - 1) old.level code.level (sym left) (ap (λ (l : Level). l.iterators) same) (ap (λ (l : Level). l.bases) same) (ap (λ (l : Level). l.home) same))

pub release-requires : goal.release-requires
release-requires g c =
    let same = sym (c.in_ok-jump_where.ensures.written.level ∙ (c.in_ok-expr.ensures.written.level ∙ (c.in_ok-bind.ensures.level ∙ (c.in_ok-block.ensures.written.level ∙ (c.in_ok-turn.ensures.level ∙ (c.in_ok-start.ensures.level ∙ c.in_ok-inner.ensures.level)))))) in
    let outer = c.in_ok-outer.ensures ∙ sym c.in_ok-end.ensures.level in
    record {
      iterators = ap (λ (l : Level). l.iterators) outer ∙ ap (λ (l : Level). l.iterators) same;
      bases = ap (λ (l : Level). l.bases) outer ∙ ap (λ (l : Level). l.bases) same;
      home = ap (λ (l : Level). l.home) outer ∙ ap (λ (l : Level). l.home) same;
    }

pub nothing-requires : goal.nothing-requires
nothing-requires g c =
    let body = c.in_ok-block.ensures.written in
    let operands = none_more c.block.new.emitter.code.operands c.turn.new.self.code.operands body.operands ∙ (c.in_ok-turn.ensures.operands ∙ (c.in_ok-start.ensures.operands ∙ (c.in_ok-inner.ensures.operands ∙ c.in_ok-end.ensures.operands))) in
    let left = condition_gone c.bind.new.self.code.operands c.expr.new.emitter.code.operands c.jump_where.new.self.code.operands c.in_ok-expr.ensures.written.operands c.in_ok-jump_where.ensures.written.operands in
    floor_same c.release.new.self.operands c.args.emitter.now.code.operands c.release.new.self.level c.args.emitter.now.code.level
    (c.release.ensures.operands ∙ (left ∙ (c.in_ok-bind.ensures.operands ∙ operands)))
    (c.release.ensures.level ∙ c.in_ok-outer.ensures) c.requires.stands.floor

pub bind-requires-2-clause-here : goal.bind-requires-2-clause-here
bind-requires-2-clause-here g c =
    let begun = c.in_ok-inner.ensures in
    let start = c.in_ok-start.ensures in
    let turned = c.in_ok-turn.ensures in
    let body = c.in_ok-block.ensures.written in
    let bound = c.in_ok-bind.ensures in
    let condition = c.in_ok-expr.ensures.written in
    let tested = c.in_ok-jump_where.ensures.written in
    let given = c.in_ok-nothing.ensures.written in
    let code = c.nothing.new.self.code in
    let old = c.args.emitter.now.code in
    let same = sym (given.level ∙ (c.release.ensures.level ∙ c.in_ok-outer.ensures)) in
    let height = none_more c.block.new.emitter.code.operands c.turn.new.self.code.operands body.operands ∙ (turned.operands ∙ (start.operands ∙ (begun.operands ∙ (c.in_ok-end.ensures.operands ∙ sym c.operands-height.ensures.value)))) in
    let left = condition_gone c.bind.new.self.code.operands c.expr.new.emitter.code.operands c.jump_where.new.self.code.operands condition.operands tested.operands in
    let operands = given.operands ∙ ap (λ n. n + count c.args.is_wanted) (c.release.ensures.operands ∙ (left ∙ (bound.operands ∙ height))) in
    found_there c.label.new.self.labels code.labels c.in_ok-end.end (spot c.height_with.result old.level) (spot code.operands code.level)
    (λ i x h. given.labels i x
    (stays_same c.bind.new.self.code.labels c.jump_where.new.self.code.labels c.release.new.self.labels (λ j y k. tested.labels j y (condition.labels j y k)) c.release.ensures.labels.labels i x
    (stays_same c.label.new.self.labels c.block.new.emitter.code.labels c.bind.new.self.code.labels (λ j y k. body.labels j y (turned.labels j y (start.labels j y (begun.labels j y k)))) bound.labels i x h)))
    c.in_ok-end.ensures.here
    (spot_same c.height_with.result code.operands old.level code.level (c.height_with.ensures ∙ sym operands) (ap (λ (l : Level). l.iterators) same) (ap (λ (l : Level). l.bases) same) (ap (λ (l : Level). l.home) same))

pub bind-requires-2-clause-innermost : goal.bind-requires-2-clause-innermost
bind-requires-2-clause-innermost g c =
    let start = c.in_ok-start.ensures in
    let turned = c.in_ok-turn.ensures in
    let body = c.in_ok-block.ensures.written in
    let outer = body.outers c.in_ok-inner.inner.next c.label.new.self.pending (turned.outers c.in_ok-inner.inner.next c.label.new.self.pending (start.outers c.in_ok-inner.inner.next c.label.new.self.pending c.in_ok-inner.ensures.outer)) in
    c.in_ok-nothing.ensures.written.pending ∙ (c.release.ensures.labels.pending ∙ (c.in_ok-jump_where.ensures.written.pending ∙ (c.in_ok-expr.ensures.written.pending ∙
    (open_again c.block.new.emitter.code.outers c.in_ok-inner.inner.next c.label.new.self.pending c.bind.new.self.code.pending outer c.in_ok-bind.ensures.pending ∙ c.in_ok-end.ensures.pending))))

pub returns-clause-written : goal.returns-clause-written
returns-clause-written g c =
    let old = c.args.emitter.now in
    let end = c.in_ok-end.ensures in
    let begun = c.in_ok-inner.ensures in
    let start = c.in_ok-start.ensures in
    let turned = c.in_ok-turn.ensures in
    let body = c.in_ok-block.ensures.written in
    let bound = c.in_ok-bind.ensures in
    let condition = c.in_ok-expr.ensures.written in
    let tested = c.in_ok-jump_where.ensures.written in
    let released = c.release.ensures in
    let given = c.in_ok-nothing.ensures.written in
    let last = c.in_ok-bind-2.ensures in
    let height = none_more c.block.new.emitter.code.operands c.turn.new.self.code.operands body.operands ∙ (turned.operands ∙ (start.operands ∙ (begun.operands ∙ end.operands))) in
    let left = condition_gone c.bind.new.self.code.operands c.expr.new.emitter.code.operands c.jump_where.new.self.code.operands condition.operands tested.operands in
    let labels : StaysIn c.label.new.self.labels c.nothing.new.self.code.labels =
    λ i x h. given.labels i x
    (stays_same c.bind.new.self.code.labels c.jump_where.new.self.code.labels c.release.new.self.labels (λ j y k. tested.labels j y (condition.labels j y k)) released.labels.labels i x
    (stays_same c.label.new.self.labels c.block.new.emitter.code.labels c.bind.new.self.code.labels (λ j y k. body.labels j y (turned.labels j y (start.labels j y (begun.labels j y k)))) bound.labels i x h)) in
    let outers : StaysIn c.label.new.self.outers c.nothing.new.self.code.outers =
    λ i x h. given.outers i x
    (stays_same c.bind.new.self.code.outers c.jump_where.new.self.code.outers c.release.new.self.outers (λ j y k. tested.outers j y (condition.outers j y k)) released.labels.outers i x
    (stays_same c.label.new.self.outers c.block.new.emitter.code.outers c.bind.new.self.code.outers (λ j y k. body.outers j y (turned.outers j y (start.outers j y (begun.outers j y k)))) bound.outers i x h)) in
    record {
      operands = last.operands ∙ (given.operands ∙ ap (λ n. n + count c.args.is_wanted) (released.operands ∙ (left ∙ (bound.operands ∙ height))));
      level = last.level ∙ (given.level ∙ (released.level ∙ c.in_ok-outer.ensures));
      labels = stays_same old.code.labels c.nothing.new.self.code.labels c.bind-2.new.self.labels (λ i x h. labels i x (end.labels i x h)) last.labels;
      outers = stays_same old.code.outers c.nothing.new.self.code.outers c.bind-2.new.self.outers (λ i x h. outers i x (end.outers i x h)) last.outers;
      pending = open_again c.nothing.new.self.code.outers c.in_ok-end.end old.code.pending c.bind-2.new.self.pending (outers c.in_ok-end.end old.code.pending end.outer) last.pending;
      loop = given.loop;
    }

pub returns-clause-placed : goal.returns-clause-placed
returns-clause-placed g c =
    λ test these old.
    let condition = c.args.repeats.0.now in
    let list = c.args.body.now in
    let here = and_left (test c.args.place) (pass test (both (list_places list) (expr_places condition))) these in
    let rest = and_right (test c.args.place) (pass test (both (list_places list) (expr_places condition))) these in
    let body = and_left (pass test (list_places list)) (pass test (expr_places condition)) rest in
    let last = and_right (pass test (list_places list)) (pass test (expr_places condition)) rest in
    let begun = c.in_ok-start.ensures.places ∙ (c.in_ok-inner.ensures.places ∙ c.in_ok-end.ensures.places) in
    places_same test c.nothing.new.self.code.places c.bind-2.new.self.places c.in_ok-bind-2.ensures.places
    (c.in_ok-nothing.ensures.placed test here
    (places_same test c.jump_where.new.self.code.places c.release.new.self.places c.release.ensures.places
    (c.in_ok-jump_where.ensures.placed test (own_pass test condition last)
    (c.in_ok-expr.ensures.placed test last
    (places_same test c.block.new.emitter.code.places c.bind.new.self.code.places c.in_ok-bind.ensures.places
    (c.in_ok-block.ensures.placed test (and_both (test c.args.place) (pass test (list_places list)) here body)
    (c.in_ok-turn.ensures.placed test here
    (places_same test c.args.emitter.now.code.places c.label-2.new.self.places begun old))))))))
