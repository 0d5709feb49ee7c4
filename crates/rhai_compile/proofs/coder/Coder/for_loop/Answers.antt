use Rattle.std.proofs.Common.{◌+◌, ap, arith, sym, ◌∙◌}
use Rattle.grain_builder.specs.Unfinished.{Level, StaysIn, level_with_iterator, level_without_iterator, spot}
use Rattle.rhai_compile.proofs.FormParts.{on_ok, own_pass}
use Rattle.rhai_compile.proofs.Staying.{condition_gone, floor_same, found_there, none_more, one_less, one_more, open_again, places_same, room_given, spot_same, stands_labelled, stays_same, written_bound}
use Rattle.rhai_emit.proofs.LoopFacts.{stands_after}
use Rattle.rhai_emit.proofs.PlaceTests.{and_both, and_left, and_right}
use Rattle.rhai_emit.specs.Loops.{count}
use Rattle.rhai_emit.specs.Places.{both, expr_places, list_places, pass}
use Rattle.rhai_compile.proofs.coder.Coder.for_loop.Goals as goal

pub expr-requires-clause-stands : goal.expr-requires-clause-stands
expr-requires-clause-stands g c =
    let end = c.in_ok-end.ensures in
    let exit = c.in_ok-exit.ensures in
    stands_labelled c.args.emitter.now c.label-2.new.self (exit.operands ∙ end.operands) (exit.level ∙ end.level) (λ i x h. exit.labels i x (end.labels i x h)) c.requires.stands

pub begin_iterator-requires : goal.begin_iterator-requires
begin_iterator-requires g c =
    let end = c.in_ok-end.ensures in
    let exit = c.in_ok-exit.ensures in
    room_given (record c.args.emitter.now { code = c.label-2.new.self }) c.expr.new.emitter c.in_ok-expr.ensures.written
    (stands_labelled c.args.emitter.now c.label-2.new.self (exit.operands ∙ end.operands) (exit.level ∙ end.level) (λ i x h. exit.labels i x (end.labels i x h)) c.requires.stands)

pub walked-requires : goal.walked-requires
walked-requires g c =
    let end = c.in_ok-end.ensures in
    let exit = c.in_ok-exit.ensures in
    let items = c.in_ok-expr.ensures.written in
    let walk = c.in_ok-begin_iterator.ensures in
    let walking = walk.level ∙ ap (λ (l : Level). level_with_iterator l) (items.level ∙ (exit.level ∙ end.level)) in
    let before = condition_gone c.label-2.new.self.operands c.expr.new.emitter.code.operands c.begin_iterator.new.self.operands items.operands walk.operands ∙ (exit.operands ∙ end.operands) in
    floor_same c.begin_iterator.new.self.operands c.args.emitter.now.code.operands c.begin_iterator.new.self.level (level_with_iterator c.args.emitter.now.code.level) before walking c.requires.stands.floor

pub put-requires-clause-room : goal.put-requires-clause-room
put-requires-clause-room g c =
    let end = c.in_ok-end.ensures in
    let exit = c.in_ok-exit.ensures in
    let items = c.in_ok-expr.ensures.written in
    let walk = c.in_ok-begin_iterator.ensures in
    let counter = c.in_ok-counter.ensures.written in
    let walking = walk.level ∙ ap (λ (l : Level). level_with_iterator l) (items.level ∙ (exit.level ∙ end.level)) in
    let before = condition_gone c.label-2.new.self.operands c.expr.new.emitter.code.operands c.begin_iterator.new.self.operands items.operands walk.operands ∙ (exit.operands ∙ end.operands) in
    let floor = floor_same c.walked.new.self.code.operands c.args.emitter.now.code.operands c.walked.new.self.code.level (level_with_iterator c.args.emitter.now.code.level) (counter.operands ∙ before) (counter.level ∙ walking) c.requires.stands.floor in
    omega arith

pub declare-requires : goal.declare-requires
declare-requires g c =
    let end = c.in_ok-end.ensures in
    let exit = c.in_ok-exit.ensures in
    let items = c.in_ok-expr.ensures.written in
    let walk = c.in_ok-begin_iterator.ensures in
    let counter = c.in_ok-counter.ensures.written in
    let put = c.in_ok-put.ensures.written in
    let walking = walk.level ∙ ap (λ (l : Level). level_with_iterator l) (items.level ∙ (exit.level ∙ end.level)) in
    let before = condition_gone c.label-2.new.self.operands c.expr.new.emitter.code.operands c.begin_iterator.new.self.operands items.operands walk.operands ∙ (exit.operands ∙ end.operands) in
    let floor = floor_same c.walked.new.self.code.operands c.args.emitter.now.code.operands c.put.new.self.code.level (level_with_iterator c.args.emitter.now.code.level) (counter.operands ∙ before) (put.level ∙ (counter.level ∙ walking)) c.requires.stands.floor in
    let more = one_more c.put.new.self.code.operands c.walked.new.self.code.operands put.operands in
    omega arith

pub begin_loop-requires-clause-floor : goal.begin_loop-requires-clause-floor
begin_loop-requires-clause-floor g c =
    let end = c.in_ok-end.ensures in
    let exit = c.in_ok-exit.ensures in
    let items = c.in_ok-expr.ensures.written in
    let walk = c.in_ok-begin_iterator.ensures in
    let counter = c.in_ok-counter.ensures.written in
    let put = c.in_ok-put.ensures.written in
    let slot = c.in_ok-slot.ensures.written in
    let walking = walk.level ∙ ap (λ (l : Level). level_with_iterator l) (items.level ∙ (exit.level ∙ end.level)) in
    let before = condition_gone c.label-2.new.self.operands c.expr.new.emitter.code.operands c.begin_iterator.new.self.operands items.operands walk.operands ∙ (exit.operands ∙ end.operands) in
    let inside = slot.level ∙ (put.level ∙ (counter.level ∙ walking)) in
    let operands = condition_gone c.walked.new.self.code.operands c.put.new.self.code.operands c.declare.new.self.code.operands (one_more c.put.new.self.code.operands c.walked.new.self.code.operands put.operands) slot.operands ∙ (counter.operands ∙ before) in
    floor_same c.declare.new.self.code.operands c.args.emitter.now.code.operands c.declare.new.self.code.level (level_with_iterator c.args.emitter.now.code.level) operands inside c.requires.stands.floor

pub begin_loop-requires-clause-least : goal.begin_loop-requires-clause-least
begin_loop-requires-clause-least g c =
    let end = c.in_ok-end.ensures in
    let exit = c.in_ok-exit.ensures in
    let items = c.in_ok-expr.ensures.written in
    let walk = c.in_ok-begin_iterator.ensures in
    let counter = c.in_ok-counter.ensures.written in
    let put = c.in_ok-put.ensures.written in
    let slot = c.in_ok-slot.ensures.written in
    let walking = walk.level ∙ ap (λ (l : Level). level_with_iterator l) (items.level ∙ (exit.level ∙ end.level)) in
    let inside = slot.level ∙ (put.level ∙ (counter.level ∙ walking)) in
    let least = ap (λ (l : Level). l.least) inside in
    let iterators = ap (λ (l : Level). l.iterators) inside in
    omega arith

pub begin_loop-requires-clause-ends : goal.begin_loop-requires-clause-ends
begin_loop-requires-clause-ends g c =
    let old = c.args.emitter.now.code in
    let end = c.in_ok-end.ensures in
    let exit = c.in_ok-exit.ensures in
    let items = c.in_ok-expr.ensures.written in
    let walk = c.in_ok-begin_iterator.ensures in
    let counter = c.in_ok-counter.ensures.written in
    let put = c.in_ok-put.ensures.written in
    let slot = c.in_ok-slot.ensures.written in
    let walking = walk.level ∙ ap (λ (l : Level). level_with_iterator l) (items.level ∙ (exit.level ∙ end.level)) in
    let before = condition_gone c.label-2.new.self.operands c.expr.new.emitter.code.operands c.begin_iterator.new.self.operands items.operands walk.operands ∙ (exit.operands ∙ end.operands) in
    let inside = slot.level ∙ (put.level ∙ (counter.level ∙ walking)) in
    let operands = condition_gone c.walked.new.self.code.operands c.put.new.self.code.operands c.declare.new.self.code.operands (one_more c.put.new.self.code.operands c.walked.new.self.code.operands put.operands) slot.operands ∙ (counter.operands ∙ before) in
    let labels-7 : StaysIn c.label-2.new.self.labels c.declare.new.self.code.labels =
    λ i x h. slot.labels i x (put.labels i x (counter.labels i x (stays_same c.label-2.new.self.labels c.expr.new.emitter.code.labels c.begin_iterator.new.self.labels items.labels walk.labels.labels i x h))) in
    let code = c.declare.new.self.code in
    found_there c.label.new.self.labels code.labels c.in_ok-end.end (spot c.height_with.result old.level) (spot (code.operands + count c.args.is_wanted) (level_without_iterator code.level)) (λ i x h. labels-7 i x (exit.labels i x h)) end.here
    (spot_same c.height_with.result (code.operands + count c.args.is_wanted) old.level (level_without_iterator code.level) (c.height_with.ensures ∙ ap (λ n. n + count c.args.is_wanted) (c.operands-height.ensures.value ∙ sym operands))
    (one_less code.level.iterators old.level.iterators (ap (λ (l : Level). l.iterators) inside)) (ap (λ (l : Level). l.bases) (sym inside)) (ap (λ (l : Level). l.home) (sym inside)))

pub turn-requires-clause-stands : goal.turn-requires-clause-stands
turn-requires-clause-stands g c = c.in_ok-inner.ensures.stands

pub turn-requires-clause-here : goal.turn-requires-clause-here
turn-requires-clause-here g c =
    let begun = c.in_ok-inner.ensures in
    let code = c.begin_loop.new.self.code in
    let from = c.declare.new.self.code in
    found_there code.labels code.labels c.in_ok-inner.inner.next (spot from.operands from.level) (spot code.operands code.level) (λ i x h. h) begun.next
    (spot_same from.operands code.operands from.level code.level (sym begun.operands) (ap (λ (l : Level). l.iterators) (sym begun.level)) (ap (λ (l : Level). l.bases) (sym begun.level)) (ap (λ (l : Level). l.home) (sym begun.level)))

pub turn-requires-clause-innermost : goal.turn-requires-clause-innermost
turn-requires-clause-innermost g c = c.in_ok-inner.ensures.pending

pub next_item-requires-clause-room : goal.next_item-requires-clause-room
next_item-requires-clause-room g c = c.in_ok-turn.ensures.stands.floor

pub next_item-requires-clause-one : goal.next_item-requires-clause-one
next_item-requires-clause-one g c =
    let end = c.in_ok-end.ensures in
    let exit = c.in_ok-exit.ensures in
    let items = c.in_ok-expr.ensures.written in
    let walk = c.in_ok-begin_iterator.ensures in
    let counter = c.in_ok-counter.ensures.written in
    let put = c.in_ok-put.ensures.written in
    let slot = c.in_ok-slot.ensures.written in
    let begun = c.in_ok-inner.ensures in
    let turned = c.in_ok-turn.ensures in
    let walking = walk.level ∙ ap (λ (l : Level). level_with_iterator l) (items.level ∙ (exit.level ∙ end.level)) in
    let inside = slot.level ∙ (put.level ∙ (counter.level ∙ walking)) in
    let same = turned.level ∙ begun.level in
    let least = ap (λ (l : Level). l.least) inside in
    let iterators = ap (λ (l : Level). l.iterators) inside in
    let least-9 = ap (λ (l : Level). l.least) same in
    let iterators-9 = ap (λ (l : Level). l.iterators) same in
    omega arith

pub next_item-requires-clause-there : goal.next_item-requires-clause-there
next_item-requires-clause-there g c =
    let old = c.args.emitter.now.code in
    let end = c.in_ok-end.ensures in
    let exit = c.in_ok-exit.ensures in
    let items = c.in_ok-expr.ensures.written in
    let walk = c.in_ok-begin_iterator.ensures in
    let counter = c.in_ok-counter.ensures.written in
    let put = c.in_ok-put.ensures.written in
    let slot = c.in_ok-slot.ensures.written in
    let walking = walk.level ∙ ap (λ (l : Level). level_with_iterator l) (items.level ∙ (exit.level ∙ end.level)) in
    let before = condition_gone c.label-2.new.self.operands c.expr.new.emitter.code.operands c.begin_iterator.new.self.operands items.operands walk.operands ∙ (exit.operands ∙ end.operands) in
    let inside = slot.level ∙ (put.level ∙ (counter.level ∙ walking)) in
    let operands = condition_gone c.walked.new.self.code.operands c.put.new.self.code.operands c.declare.new.self.code.operands (one_more c.put.new.self.code.operands c.walked.new.self.code.operands put.operands) slot.operands ∙ (counter.operands ∙ before) in
    let begun = c.in_ok-inner.ensures in
    let turned = c.in_ok-turn.ensures in
    let labels-7 : StaysIn c.label-2.new.self.labels c.declare.new.self.code.labels =
    λ i x h. slot.labels i x (put.labels i x (counter.labels i x (stays_same c.label-2.new.self.labels c.expr.new.emitter.code.labels c.begin_iterator.new.self.labels items.labels walk.labels.labels i x h))) in
    let code = c.turn.new.self.code in
    let from = c.label.new.self in
    let height = c.operands-height.result in
    let same = turned.level ∙ begun.level in
    let home = ap (λ (l : Level). l.home) same ∙ ap (λ (l : Level). l.home) inside in
    let bases = ap (λ (l : Level). l.bases) same ∙ ap (λ (l : Level). l.bases) inside in
    let iterators = ap (λ (l : Level). l.iterators) same ∙ ap (λ (l : Level). l.iterators) inside in
    found_there c.label-2.new.self.labels code.labels c.in_ok-exit.exit (spot height from.level) (spot code.operands (level_without_iterator code.level)) (λ i x h. turned.labels i x (begun.labels i x (labels-7 i x h))) exit.here
    (spot_same height code.operands from.level (level_without_iterator code.level) (c.operands-height.ensures.value ∙ sym (turned.operands ∙ (begun.operands ∙ operands)))
    (ap (λ (l : Level). l.iterators) end.level ∙ one_less code.level.iterators old.level.iterators iterators)
    (ap (λ (l : Level). l.bases) end.level ∙ sym bases) (ap (λ (l : Level). l.home) end.level ∙ sym home))

pub block-requires-clause-stands : goal.block-requires-clause-stands
block-requires-clause-stands g c = stands_after c.turn.new.self c.next_item.new.self c.turn.new.self.code.operands c.in_ok-next_item.ensures.written c.in_ok-turn.ensures.stands.floor c.in_ok-turn.ensures.stands

pub jump-requires-clause-there : goal.jump-requires-clause-there
jump-requires-clause-there g c =
    let begun = c.in_ok-inner.ensures in
    let turned = c.in_ok-turn.ensures in
    let item = c.in_ok-next_item.ensures.written in
    let body = c.in_ok-block.ensures.written in
    let code = c.block.new.emitter.code in
    let from = c.declare.new.self.code in
    let same = sym (body.level ∙ (item.level ∙ (turned.level ∙ begun.level))) in
    found_there c.begin_loop.new.self.code.labels code.labels c.in_ok-inner.inner.next (spot from.operands from.level) (spot code.operands code.level) (λ i x h. body.labels i x (item.labels i x (turned.labels i x h))) begun.next
    (spot_same from.operands code.operands from.level code.level (sym (none_more code.operands c.next_item.new.self.code.operands body.operands ∙ (item.operands ∙ (turned.operands ∙ begun.operands)))) (ap (λ (l : Level). l.iterators) (same)) (ap (λ (l : Level). l.bases) (same)) (ap (λ (l : Level). l.home) (same)))

pub jump-requires-clause-room : goal.jump-requires-clause-room
jump-requires-clause-room g c =
    let item = c.in_ok-next_item.ensures.written in
    let body = c.in_ok-block.ensures.written in
    floor_same c.block.new.emitter.code.operands c.turn.new.self.code.operands c.block.new.emitter.code.level c.turn.new.self.code.level
    (none_more c.block.new.emitter.code.operands c.next_item.new.self.code.operands body.operands ∙ item.operands) (body.level ∙ item.level) c.in_ok-turn.ensures.stands.floor

pub resume-requires-clause-loose : goal.resume-requires-clause-loose
resume-requires-clause-loose g c = c.in_ok-jump.ensures.loose

pub resume-requires-clause-home : goal.resume-requires-clause-home
resume-requires-clause-home g c =
    let end = c.in_ok-end.ensures in
    let exit = c.in_ok-exit.ensures in
    let items = c.in_ok-expr.ensures.written in
    let walk = c.in_ok-begin_iterator.ensures in
    let counter = c.in_ok-counter.ensures.written in
    let put = c.in_ok-put.ensures.written in
    let slot = c.in_ok-slot.ensures.written in
    let begun = c.in_ok-inner.ensures in
    let turned = c.in_ok-turn.ensures in
    let item = c.in_ok-next_item.ensures.written in
    let body = c.in_ok-block.ensures.written in
    let jumped = c.in_ok-jump.ensures.leaves in
    let walking = walk.level ∙ ap (λ (l : Level). level_with_iterator l) (items.level ∙ (exit.level ∙ end.level)) in
    let inside = slot.level ∙ (put.level ∙ (counter.level ∙ walking)) in
    let same = jumped.level ∙ (body.level ∙ (item.level ∙ (turned.level ∙ begun.level))) in
    ap (λ (l : Level). l.home) c.in_ok-outer.ensures ∙ sym (ap (λ (l : Level). l.home) same ∙ ap (λ (l : Level). l.home) inside)

pub bind-requires-clause-here : goal.bind-requires-clause-here
bind-requires-clause-here g c =
    let end = c.in_ok-end.ensures in
    let exit = c.in_ok-exit.ensures in
    let items = c.in_ok-expr.ensures.written in
    let walk = c.in_ok-begin_iterator.ensures in
    let counter = c.in_ok-counter.ensures.written in
    let put = c.in_ok-put.ensures.written in
    let slot = c.in_ok-slot.ensures.written in
    let begun = c.in_ok-inner.ensures in
    let turned = c.in_ok-turn.ensures in
    let item = c.in_ok-next_item.ensures.written in
    let body = c.in_ok-block.ensures.written in
    let jumped = c.in_ok-jump.ensures.leaves in
    let resumed = c.in_ok-resume.ensures in
    let labels-7 : StaysIn c.label-2.new.self.labels c.declare.new.self.code.labels =
    λ i x h. slot.labels i x (put.labels i x (counter.labels i x (stays_same c.label-2.new.self.labels c.expr.new.emitter.code.labels c.begin_iterator.new.self.labels items.labels walk.labels.labels i x h))) in
    let labels-13 : StaysIn c.label-2.new.self.labels c.resume.new.self.labels =
    stays_same c.label-2.new.self.labels c.block.new.emitter.code.labels c.resume.new.self.labels (λ i x h. body.labels i x (item.labels i x (turned.labels i x (begun.labels i x (labels-7 i x h))))) (resumed.labels.labels ∙ jumped.labels) in
    let code = c.resume.new.self in
    let from = c.label.new.self in
    let height = c.operands-height.result in
    let same = end.level ∙ sym (resumed.level ∙ c.in_ok-outer.ensures) in
    found_there c.label-2.new.self.labels code.labels c.in_ok-exit.exit (spot height from.level) (spot code.operands code.level) labels-13 exit.here
    (spot_same height code.operands from.level code.level (sym resumed.operands) (ap (λ (l : Level). l.iterators) (same)) (ap (λ (l : Level). l.bases) (same)) (ap (λ (l : Level). l.home) (same)))

pub bind-requires-clause-innermost : goal.bind-requires-clause-innermost
bind-requires-clause-innermost g c =
    let exit = c.in_ok-exit.ensures in
    let items = c.in_ok-expr.ensures.written in
    let walk = c.in_ok-begin_iterator.ensures in
    let counter = c.in_ok-counter.ensures.written in
    let put = c.in_ok-put.ensures.written in
    let slot = c.in_ok-slot.ensures.written in
    let begun = c.in_ok-inner.ensures in
    let turned = c.in_ok-turn.ensures in
    let item = c.in_ok-next_item.ensures.written in
    let body = c.in_ok-block.ensures.written in
    let jumped = c.in_ok-jump.ensures.leaves in
    let resumed = c.in_ok-resume.ensures in
    resumed.labels.pending ∙ (jumped.pending ∙ (body.pending ∙ (item.pending ∙
    (open_again c.begin_loop.new.self.code.outers c.in_ok-inner.inner.next c.declare.new.self.code.pending c.turn.new.self.code.pending begun.outer turned.pending ∙
    (slot.pending ∙ (put.pending ∙ (counter.pending ∙ (walk.labels.pending ∙ (items.pending ∙ exit.pending)))))))))

pub nothing-requires : goal.nothing-requires
nothing-requires g c =
    let resumed = c.in_ok-resume.ensures in
    let bound = c.in_ok-bind.ensures in
    floor_same c.bind.new.self.operands c.args.emitter.now.code.operands c.bind.new.self.level c.args.emitter.now.code.level
    (bound.operands ∙ (resumed.operands ∙ c.operands-height.ensures.value)) (bound.level ∙ (resumed.level ∙ c.in_ok-outer.ensures)) c.requires.stands.floor

pub bind-requires-2-clause-here : goal.bind-requires-2-clause-here
bind-requires-2-clause-here g c =
    let old = c.args.emitter.now.code in
    let exit = c.in_ok-exit.ensures in
    let items = c.in_ok-expr.ensures.written in
    let walk = c.in_ok-begin_iterator.ensures in
    let counter = c.in_ok-counter.ensures.written in
    let put = c.in_ok-put.ensures.written in
    let slot = c.in_ok-slot.ensures.written in
    let begun = c.in_ok-inner.ensures in
    let turned = c.in_ok-turn.ensures in
    let item = c.in_ok-next_item.ensures.written in
    let body = c.in_ok-block.ensures.written in
    let jumped = c.in_ok-jump.ensures.leaves in
    let resumed = c.in_ok-resume.ensures in
    let bound = c.in_ok-bind.ensures in
    let given = c.in_ok-nothing.ensures.written in
    let labels-7 : StaysIn c.label-2.new.self.labels c.declare.new.self.code.labels =
    λ i x h. slot.labels i x (put.labels i x (counter.labels i x (stays_same c.label-2.new.self.labels c.expr.new.emitter.code.labels c.begin_iterator.new.self.labels items.labels walk.labels.labels i x h))) in
    let labels-13 : StaysIn c.label-2.new.self.labels c.resume.new.self.labels =
    stays_same c.label-2.new.self.labels c.block.new.emitter.code.labels c.resume.new.self.labels (λ i x h. body.labels i x (item.labels i x (turned.labels i x (begun.labels i x (labels-7 i x h))))) (resumed.labels.labels ∙ jumped.labels) in
    let labels-15 : StaysIn c.label.new.self.labels c.nothing.new.self.code.labels =
    λ i x h. given.labels i x (stays_same c.label.new.self.labels c.resume.new.self.labels c.bind.new.self.labels (λ j y k. labels-13 j y (exit.labels j y k)) bound.labels i x h) in
    let code = c.nothing.new.self.code in
    let same = sym (given.level ∙ (bound.level ∙ (resumed.level ∙ c.in_ok-outer.ensures))) in
    found_there c.label.new.self.labels code.labels c.in_ok-end.end (spot c.height_with.result old.level) (spot code.operands code.level) labels-15 c.in_ok-end.ensures.here
    (spot_same c.height_with.result code.operands old.level code.level (c.height_with.ensures ∙ sym (given.operands ∙ ap (λ n. n + count c.args.is_wanted) (bound.operands ∙ resumed.operands))) (ap (λ (l : Level). l.iterators) (same)) (ap (λ (l : Level). l.bases) (same)) (ap (λ (l : Level). l.home) (same)))

pub bind-requires-2-clause-innermost : goal.bind-requires-2-clause-innermost
bind-requires-2-clause-innermost g c =
    let exit = c.in_ok-exit.ensures in
    let items = c.in_ok-expr.ensures.written in
    let walk = c.in_ok-begin_iterator.ensures in
    let counter = c.in_ok-counter.ensures.written in
    let put = c.in_ok-put.ensures.written in
    let slot = c.in_ok-slot.ensures.written in
    let begun = c.in_ok-inner.ensures in
    let turned = c.in_ok-turn.ensures in
    let item = c.in_ok-next_item.ensures.written in
    let body = c.in_ok-block.ensures.written in
    let jumped = c.in_ok-jump.ensures.leaves in
    let resumed = c.in_ok-resume.ensures in
    let bound = c.in_ok-bind.ensures in
    let given = c.in_ok-nothing.ensures.written in
    let outers-7 : StaysIn c.label-2.new.self.outers c.declare.new.self.code.outers =
    λ i x h. slot.outers i x (put.outers i x (counter.outers i x (stays_same c.label-2.new.self.outers c.expr.new.emitter.code.outers c.begin_iterator.new.self.outers items.outers walk.labels.outers i x h))) in
    let outers-13 : StaysIn c.label-2.new.self.outers c.resume.new.self.outers =
    stays_same c.label-2.new.self.outers c.block.new.emitter.code.outers c.resume.new.self.outers (λ i x h. body.outers i x (item.outers i x (turned.outers i x (begun.outers i x (outers-7 i x h))))) (resumed.labels.outers ∙ jumped.outers) in
    given.pending ∙ (open_again c.resume.new.self.outers c.in_ok-exit.exit c.label.new.self.pending c.bind.new.self.pending (outers-13 c.in_ok-exit.exit c.label.new.self.pending exit.outer) bound.pending ∙ c.in_ok-end.ensures.pending)

pub returns-clause-written : goal.returns-clause-written
returns-clause-written g c =
    let old = c.args.emitter.now.code in
    let end = c.in_ok-end.ensures in
    let exit = c.in_ok-exit.ensures in
    let items = c.in_ok-expr.ensures.written in
    let walk = c.in_ok-begin_iterator.ensures in
    let counter = c.in_ok-counter.ensures.written in
    let put = c.in_ok-put.ensures.written in
    let slot = c.in_ok-slot.ensures.written in
    let begun = c.in_ok-inner.ensures in
    let turned = c.in_ok-turn.ensures in
    let item = c.in_ok-next_item.ensures.written in
    let body = c.in_ok-block.ensures.written in
    let jumped = c.in_ok-jump.ensures.leaves in
    let resumed = c.in_ok-resume.ensures in
    let bound = c.in_ok-bind.ensures in
    let given = c.in_ok-nothing.ensures.written in
    let labels-7 : StaysIn c.label-2.new.self.labels c.declare.new.self.code.labels =
    λ i x h. slot.labels i x (put.labels i x (counter.labels i x (stays_same c.label-2.new.self.labels c.expr.new.emitter.code.labels c.begin_iterator.new.self.labels items.labels walk.labels.labels i x h))) in
    let labels-13 : StaysIn c.label-2.new.self.labels c.resume.new.self.labels =
    stays_same c.label-2.new.self.labels c.block.new.emitter.code.labels c.resume.new.self.labels (λ i x h. body.labels i x (item.labels i x (turned.labels i x (begun.labels i x (labels-7 i x h))))) (resumed.labels.labels ∙ jumped.labels) in
    let labels-15 : StaysIn c.label.new.self.labels c.nothing.new.self.code.labels =
    λ i x h. given.labels i x (stays_same c.label.new.self.labels c.resume.new.self.labels c.bind.new.self.labels (λ j y k. labels-13 j y (exit.labels j y k)) bound.labels i x h) in
    let outers-7 : StaysIn c.label-2.new.self.outers c.declare.new.self.code.outers =
    λ i x h. slot.outers i x (put.outers i x (counter.outers i x (stays_same c.label-2.new.self.outers c.expr.new.emitter.code.outers c.begin_iterator.new.self.outers items.outers walk.labels.outers i x h))) in
    let outers-13 : StaysIn c.label-2.new.self.outers c.resume.new.self.outers =
    stays_same c.label-2.new.self.outers c.block.new.emitter.code.outers c.resume.new.self.outers (λ i x h. body.outers i x (item.outers i x (turned.outers i x (begun.outers i x (outers-7 i x h))))) (resumed.labels.outers ∙ jumped.outers) in
    let outers-15 : StaysIn c.label.new.self.outers c.nothing.new.self.code.outers =
    λ i x h. given.outers i x (stays_same c.label.new.self.outers c.resume.new.self.outers c.bind.new.self.outers (λ j y k. outers-13 j y (exit.outers j y k)) bound.outers i x h) in
    let first = c.args.emitter.now in
    let new = record c.nothing.new.self { code = c.bind-2.new.self } in
    written_bound first c.nothing.new.self.code new (old.operands + count c.args.is_wanted) c.in_ok-end.end c.bind-2.result
    (given.operands ∙ ap (λ n. n + count c.args.is_wanted) (bound.operands ∙ (resumed.operands ∙ c.operands-height.ensures.value)))
    (given.level ∙ (bound.level ∙ (resumed.level ∙ c.in_ok-outer.ensures)))
    (λ i x h. labels-15 i x (end.labels i x h))
    (λ i x h. outers-15 i x (end.outers i x h))
    (outers-15 c.in_ok-end.end _ end.outer)
    (given.loop ∙ (slot.loop ∙ (put.loop ∙ (counter.loop ∙ items.loop))))
    c.bind-2.ensures.pending c.bind-2.ensures.labels c.bind-2.ensures.outers c.bind-2.ensures.operands c.bind-2.ensures.level

pub returns-clause-placed : goal.returns-clause-placed
returns-clause-placed g c =
    on_ok c.bind-2.result
    (λ same test these old.
    let expr = c.args.parts.0.now in
    let list = c.args.parts.1.now in
    let here = and_left (test c.args.place) (pass test (both (expr_places expr) (list_places list))) these in
    let rest = and_right (test c.args.place) (pass test (both (expr_places expr) (list_places list))) these in
    let first = and_left (pass test (expr_places expr)) (pass test (list_places list)) rest in
    let last = and_right (pass test (expr_places expr)) (pass test (list_places list)) rest in
    places_same test c.nothing.new.self.code.places _ same
    (c.in_ok-nothing.ensures.placed test here
    (places_same test c.jump.new.self.places c.bind.new.self.places (c.in_ok-bind.ensures.places ∙ c.in_ok-resume.ensures.places)
    (c.in_ok-jump.ensures.placed test here
    (c.in_ok-block.ensures.placed test (and_both (test c.args.place) (pass test (list_places list)) here last)
    (c.in_ok-next_item.ensures.placed test here
    (c.in_ok-turn.ensures.placed test here
    (places_same test c.declare.new.self.code.places c.begin_loop.new.self.code.places c.in_ok-inner.ensures.places
    (c.in_ok-slot.ensures.placed test here
    (c.in_ok-put.ensures.placed test here
    (c.in_ok-counter.ensures.placed test here
    (c.in_ok-begin_iterator.ensures.placed test (own_pass test expr first)
    (c.in_ok-expr.ensures.placed test first
    (places_same test c.args.emitter.now.code.places c.label-2.new.self.places (c.in_ok-exit.ensures.places ∙ c.in_ok-end.ensures.places) old))))))))))))))
    c.bind-2.ensures.places
