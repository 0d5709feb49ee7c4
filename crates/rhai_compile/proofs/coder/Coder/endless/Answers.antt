use Rattle.std.proofs.Common.{◌+◌, ap, refl, sym, ◌∙◌}
use Rattle.grain_builder.specs.Unfinished.{Level, StaysIn, spot}
use Rattle.rhai_compile.proofs.FormParts.{on_ok}
use Rattle.rhai_compile.proofs.Staying.{floor_same, found_there, none_more, open_again, places_same, spot_same, stays_same, written_bound}
use Rattle.rhai_emit.proofs.PlaceTests.{and_left}
use Rattle.rhai_emit.specs.Loops.{count}
use Rattle.rhai_emit.specs.Places.{list_places, pass}
use Rattle.rhai_compile.proofs.coder.Coder.endless.Goals as goal

pub turn-requires-clause-stands : goal.turn-requires-clause-stands
turn-requires-clause-stands g c = c.in_ok-inner.ensures.stands

pub block-requires-clause-stands : goal.block-requires-clause-stands
block-requires-clause-stands g c = c.in_ok-turn.ensures.stands

pub returns-clause-written : goal.returns-clause-written
returns-clause-written g c =
    let old = c.args.emitter.now in
    let end = c.in_ok-end.ensures in
    let begun = c.in_ok-inner.ensures in
    let turned = c.in_ok-turn.ensures in
    let body = c.in_ok-block.ensures.written in
    let jumped = c.in_ok-jump.ensures.leaves in
    let resumed = c.in_ok-resume.ensures in
    let labels : StaysIn c.label.new.self.labels c.resume.new.self.labels =
    stays_same c.label.new.self.labels c.block.new.emitter.code.labels c.resume.new.self.labels (λ i x h. body.labels i x (turned.labels i x (begun.labels i x h))) (resumed.labels.labels ∙ jumped.labels) in
    let outers : StaysIn c.label.new.self.outers c.resume.new.self.outers =
    stays_same c.label.new.self.outers c.block.new.emitter.code.outers c.resume.new.self.outers (λ i x h. body.outers i x (turned.outers i x (begun.outers i x h))) (resumed.labels.outers ∙ jumped.outers) in
    let new = record c.block.new.emitter { code = c.bind.new.self; scope = record c.block.new.emitter.scope { around = old.scope.around } } in
    written_bound old c.resume.new.self new (old.code.operands + count c.args.is_wanted) c.in_ok-end.end c.bind.result
    (resumed.operands ∙ (c.height_with-2.ensures ∙ ap (λ n. n + count c.args.is_wanted) c.operands-height.ensures.value))
    (resumed.level ∙ c.in_ok-outer.ensures)
    (λ i x h. labels i x (end.labels i x h))
    (λ i x h. outers i x (end.outers i x h))
    (outers c.in_ok-end.end _ end.outer)
    refl
    c.bind.ensures.pending c.bind.ensures.labels c.bind.ensures.outers c.bind.ensures.operands c.bind.ensures.level

pub returns-clause-placed : goal.returns-clause-placed
returns-clause-placed g c =
    on_ok c.bind.result
    (λ same test these old.
    let here = and_left (test c.args.place) (pass test (list_places c.args.body.now)) these in
    let begun = c.in_ok-inner.ensures.places ∙ c.in_ok-end.ensures.places in
    places_same test c.jump.new.self.places _ (same ∙ c.in_ok-resume.ensures.places)
    (c.in_ok-jump.ensures.placed test here
    (c.in_ok-block.ensures.placed test these
    (c.in_ok-turn.ensures.placed test here
    (places_same test c.args.emitter.now.code.places c.begin_loop.new.self.code.places begun old)))))
    c.bind.ensures.places

pub begin_loop-requires-clause-floor : goal.begin_loop-requires-clause-floor
begin_loop-requires-clause-floor g c = floor_same c.label.new.self.operands c.args.emitter.now.code.operands c.label.new.self.level c.args.emitter.now.code.level c.in_ok-end.ensures.operands c.in_ok-end.ensures.level c.requires.stands.floor

pub turn-requires-clause-here : goal.turn-requires-clause-here
turn-requires-clause-here g c =
    let begun = c.in_ok-inner.ensures in
    let code = c.begin_loop.new.self.code in
    let old = c.label.new.self in
    found_there code.labels code.labels c.in_ok-inner.inner.next (spot old.operands old.level) (spot code.operands code.level) (λ i x h. h) begun.next
    (spot_same old.operands code.operands old.level code.level (sym begun.operands) (ap (λ (l : Level). l.iterators) (sym begun.level)) (ap (λ (l : Level). l.bases) (sym begun.level)) (ap (λ (l : Level). l.home) (sym begun.level)))

pub turn-requires-clause-innermost : goal.turn-requires-clause-innermost
turn-requires-clause-innermost g c = c.in_ok-inner.ensures.pending

pub jump-requires-clause-there : goal.jump-requires-clause-there
jump-requires-clause-there g c =
    let begun = c.in_ok-inner.ensures in
    let turned = c.in_ok-turn.ensures in
    let body = c.in_ok-block.ensures.written in
    let old = c.label.new.self in
    let code = c.block.new.emitter.code in
    let same = body.level ∙ (turned.level ∙ begun.level) in
    found_there c.begin_loop.new.self.code.labels code.labels c.in_ok-inner.inner.next (spot old.operands old.level) (spot code.operands code.level) (λ i x h. body.labels i x (turned.labels i x h)) begun.next
    (spot_same old.operands code.operands old.level code.level (sym (none_more code.operands c.turn.new.self.code.operands body.operands ∙ (turned.operands ∙ begun.operands))) (ap (λ (l : Level). l.iterators) (sym same)) (ap (λ (l : Level). l.bases) (sym same)) (ap (λ (l : Level). l.home) (sym same)))

pub jump-requires-clause-room : goal.jump-requires-clause-room
jump-requires-clause-room g c =
    floor_same c.block.new.emitter.code.operands c.turn.new.self.code.operands c.block.new.emitter.code.level c.turn.new.self.code.level (none_more c.block.new.emitter.code.operands c.turn.new.self.code.operands c.in_ok-block.ensures.written.operands) c.in_ok-block.ensures.written.level c.in_ok-turn.ensures.stands.floor

pub resume-requires-clause-loose : goal.resume-requires-clause-loose
resume-requires-clause-loose g c = c.in_ok-jump.ensures.loose

pub resume-requires-clause-home : goal.resume-requires-clause-home
resume-requires-clause-home g c =
    let same = c.in_ok-jump.ensures.leaves.level ∙ (c.in_ok-block.ensures.written.level ∙ (c.in_ok-turn.ensures.level ∙ c.in_ok-inner.ensures.level)) in
    ap (λ (l : Level). l.home) (c.in_ok-outer.ensures ∙ sym c.in_ok-end.ensures.level) ∙ sym (ap (λ (l : Level). l.home) same)

pub bind-requires-clause-here : goal.bind-requires-clause-here
bind-requires-clause-here g c =
    let end = c.in_ok-end.ensures in
    let begun = c.in_ok-inner.ensures in
    let turned = c.in_ok-turn.ensures in
    let body = c.in_ok-block.ensures.written in
    let resumed = c.in_ok-resume.ensures in
    let code = c.resume.new.self in
    let old = c.args.emitter.now.code in
    let same = sym (resumed.level ∙ c.in_ok-outer.ensures) in
    found_there c.label.new.self.labels code.labels c.in_ok-end.end (spot c.height_with.result old.level) (spot code.operands code.level)
    (stays_same c.label.new.self.labels c.block.new.emitter.code.labels code.labels (λ i x h. body.labels i x (turned.labels i x (begun.labels i x h))) (resumed.labels.labels ∙ c.in_ok-jump.ensures.leaves.labels))
    end.here
    (spot_same c.height_with.result code.operands old.level code.level (c.height_with.ensures ∙ sym (resumed.operands ∙ c.height_with-2.ensures)) (ap (λ (l : Level). l.iterators) same) (ap (λ (l : Level). l.bases) same) (ap (λ (l : Level). l.home) same))

pub bind-requires-clause-innermost : goal.bind-requires-clause-innermost
bind-requires-clause-innermost g c =
    let end = c.in_ok-end.ensures in
    let begun = c.in_ok-inner.ensures in
    let turned = c.in_ok-turn.ensures in
    let body = c.in_ok-block.ensures.written in
    let pending = c.in_ok-resume.ensures.labels.pending ∙ (c.in_ok-jump.ensures.leaves.pending ∙ body.pending) in
    pending ∙ (open_again c.begin_loop.new.self.code.outers c.in_ok-inner.inner.next c.label.new.self.pending c.turn.new.self.code.pending begun.outer turned.pending ∙ end.pending)
