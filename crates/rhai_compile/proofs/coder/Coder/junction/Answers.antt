use Rattle.std.proofs.Common.{◌+◌, ◌-◌, ap, arith, sym, ◌∙◌}
use Rattle.grain_builder.specs.Unfinished.{Level, StaysIn, spot}
use Rattle.rhai_compile.proofs.Staying.{found_there, open_again, spot_same, stands_labelled, stays_same, written_bound}
use Rattle.rhai_emit.proofs.LoopFacts.{stands_after}
use Rattle.rhai_compile.proofs.coder.Coder.junction.Goals as goal

pub jump_where-requires-clause-room : goal.jump_where-requires-clause-room
jump_where-requires-clause-room g c =
    let end = c.in_ok-end.ensures in
    let short = c.in_ok-short.ensures in
    let room = c.requires.room in
    let operands-1 = end.operands in
    let operands-2 = short.operands in
    let floor = ap (λ (l : Level). l.floor) (short.level ∙ end.level) in
    omega arith

pub jump_where-requires-clause-there : goal.jump_where-requires-clause-there
jump_where-requires-clause-there g c =
    let end = c.in_ok-end.ensures in
    let short = c.in_ok-short.ensures in
    let value = c.operands-height.ensures.value in
    let operands-1 = end.operands in
    let operands-2 = short.operands in
    found_there c.label-2.new.self.labels c.label-2.new.self.labels c.in_ok-short.short (spot (c.operands-height.result - 1) c.label.new.self.level) (spot (c.label-2.new.self.operands - 1) c.label-2.new.self.level)
    (λ i x h. h) short.here
    (spot_same (c.operands-height.result - 1) (c.label-2.new.self.operands - 1) c.label.new.self.level c.label-2.new.self.level (omega arith) (ap (λ (l : Level). l.iterators) (sym short.level)) (ap (λ (l : Level). l.bases) (sym short.level)) (ap (λ (l : Level). l.home) (sym short.level)))

pub expr-requires-clause-stands : goal.expr-requires-clause-stands
expr-requires-clause-stands g c =
    let end = c.in_ok-end.ensures in
    let short = c.in_ok-short.ensures in
    let room = c.requires.room in
    let operands-1 = end.operands in
    let operands-2 = short.operands in
    let labelled = stands_labelled c.args.emitter.now c.label-2.new.self (short.operands ∙ end.operands) (short.level ∙ end.level) (λ i x h. short.labels i x (end.labels i x h)) c.requires.stands in
    let floor = ap (λ (l : Level). l.floor) (short.level ∙ end.level) in
    stands_after (record c.args.emitter.now { code = c.label-2.new.self }) c.jump_where.new.self (c.label-2.new.self.operands - 1) c.in_ok-jump_where.ensures.written (omega arith) labelled

pub jump_where-requires-2-clause-room : goal.jump_where-requires-2-clause-room
jump_where-requires-2-clause-room g c =
    let end = c.in_ok-end.ensures in
    let short = c.in_ok-short.ensures in
    let tested = c.in_ok-jump_where.ensures.written in
    let right = c.in_ok-expr.ensures.written in
    let room = c.requires.room in
    let operands-1 = end.operands in
    let operands-2 = short.operands in
    let operands-3 = tested.operands in
    let operands-4 = right.operands in
    let floor = ap (λ (l : Level). l.floor) (right.level ∙ (tested.level ∙ (short.level ∙ end.level))) in
    omega arith

pub jump_where-requires-2-clause-there : goal.jump_where-requires-2-clause-there
jump_where-requires-2-clause-there g c =
    let end = c.in_ok-end.ensures in
    let short = c.in_ok-short.ensures in
    let tested = c.in_ok-jump_where.ensures.written in
    let right = c.in_ok-expr.ensures.written in
    let value = c.operands-height.ensures.value in
    let operands-1 = end.operands in
    let operands-2 = short.operands in
    let operands-3 = tested.operands in
    let operands-4 = right.operands in
    found_there c.label-2.new.self.labels c.expr.new.emitter.code.labels c.in_ok-short.short (spot (c.operands-height.result - 1) c.label.new.self.level) (spot (c.expr.new.emitter.code.operands - 1) c.expr.new.emitter.code.level)
    (λ i x h. right.labels i x (tested.labels i x h)) short.here
    (spot_same (c.operands-height.result - 1) (c.expr.new.emitter.code.operands - 1) c.label.new.self.level c.expr.new.emitter.code.level (omega arith) (ap (λ (l : Level). l.iterators) (sym (right.level ∙ (tested.level ∙ short.level)))) (ap (λ (l : Level). l.bases) (sym (right.level ∙ (tested.level ∙ short.level)))) (ap (λ (l : Level). l.home) (sym (right.level ∙ (tested.level ∙ short.level)))))

pub put-requires-clause-room : goal.put-requires-clause-room
put-requires-clause-room g c =
    let end = c.in_ok-end.ensures in
    let short = c.in_ok-short.ensures in
    let tested = c.in_ok-jump_where.ensures.written in
    let right = c.in_ok-expr.ensures.written in
    let again = c.in_ok-jump_where-2.ensures.written in
    let room = c.requires.room in
    let operands-1 = end.operands in
    let operands-2 = short.operands in
    let operands-3 = tested.operands in
    let operands-4 = right.operands in
    let operands-5 = again.operands in
    let floor = ap (λ (l : Level). l.floor) (again.level ∙ (right.level ∙ (tested.level ∙ (short.level ∙ end.level)))) in
    omega arith

pub jump-requires-clause-there : goal.jump-requires-clause-there
jump-requires-clause-there g c =
    let end = c.in_ok-end.ensures in
    let short = c.in_ok-short.ensures in
    let tested = c.in_ok-jump_where.ensures.written in
    let right = c.in_ok-expr.ensures.written in
    let again = c.in_ok-jump_where-2.ensures.written in
    let put = c.in_ok-put.ensures.written in
    let value = c.operands-height.ensures.value in
    let operands-1 = end.operands in
    let operands-2 = short.operands in
    let operands-3 = tested.operands in
    let operands-4 = right.operands in
    let operands-5 = again.operands in
    let operands-6 = put.operands in
    found_there c.label.new.self.labels c.put.new.self.code.labels c.in_ok-end.end (spot (c.operands-height.result - 1 + 1) c.args.emitter.now.code.level) (spot (c.put.new.self.code.operands) c.put.new.self.code.level)
    (λ i x h. put.labels i x (again.labels i x (right.labels i x (tested.labels i x (short.labels i x h))))) end.here
    (spot_same (c.operands-height.result - 1 + 1) (c.put.new.self.code.operands) c.args.emitter.now.code.level c.put.new.self.code.level (omega arith) (ap (λ (l : Level). l.iterators) (sym (put.level ∙ (again.level ∙ (right.level ∙ (tested.level ∙ (short.level ∙ end.level))))))) (ap (λ (l : Level). l.bases) (sym (put.level ∙ (again.level ∙ (right.level ∙ (tested.level ∙ (short.level ∙ end.level))))))) (ap (λ (l : Level). l.home) (sym (put.level ∙ (again.level ∙ (right.level ∙ (tested.level ∙ (short.level ∙ end.level))))))))

pub jump-requires-clause-room : goal.jump-requires-clause-room
jump-requires-clause-room g c =
    let end = c.in_ok-end.ensures in
    let short = c.in_ok-short.ensures in
    let tested = c.in_ok-jump_where.ensures.written in
    let right = c.in_ok-expr.ensures.written in
    let again = c.in_ok-jump_where-2.ensures.written in
    let put = c.in_ok-put.ensures.written in
    let room = c.requires.room in
    let operands-1 = end.operands in
    let operands-2 = short.operands in
    let operands-3 = tested.operands in
    let operands-4 = right.operands in
    let operands-5 = again.operands in
    let operands-6 = put.operands in
    let floor = ap (λ (l : Level). l.floor) (put.level ∙ (again.level ∙ (right.level ∙ (tested.level ∙ (short.level ∙ end.level))))) in
    omega arith

pub bind-requires-clause-here : goal.bind-requires-clause-here
bind-requires-clause-here g c =
    let short = c.in_ok-short.ensures in
    let tested = c.in_ok-jump_where.ensures.written in
    let right = c.in_ok-expr.ensures.written in
    let again = c.in_ok-jump_where-2.ensures.written in
    let put = c.in_ok-put.ensures.written in
    let jumped = c.in_ok-jump.ensures.leaves in
    found_there c.label-2.new.self.labels c.jump.new.self.labels c.in_ok-short.short (spot (c.operands-height.result - 1) c.label.new.self.level) (spot (c.jump.new.self.operands) c.jump.new.self.level)
    (stays_same c.label-2.new.self.labels c.put.new.self.code.labels c.jump.new.self.labels (λ i x h. put.labels i x (again.labels i x (right.labels i x (tested.labels i x h)))) jumped.labels) short.here
    (spot_same (c.operands-height.result - 1) (c.jump.new.self.operands) c.label.new.self.level c.jump.new.self.level (sym jumped.operands) (ap (λ (l : Level). l.iterators) (sym (jumped.level ∙ (put.level ∙ (again.level ∙ (right.level ∙ (tested.level ∙ short.level))))))) (ap (λ (l : Level). l.bases) (sym (jumped.level ∙ (put.level ∙ (again.level ∙ (right.level ∙ (tested.level ∙ short.level))))))) (ap (λ (l : Level). l.home) (sym (jumped.level ∙ (put.level ∙ (again.level ∙ (right.level ∙ (tested.level ∙ short.level))))))))

pub bind-requires-clause-innermost : goal.bind-requires-clause-innermost
bind-requires-clause-innermost g c =
    let short = c.in_ok-short.ensures in
    let tested = c.in_ok-jump_where.ensures.written in
    let right = c.in_ok-expr.ensures.written in
    let again = c.in_ok-jump_where-2.ensures.written in
    let put = c.in_ok-put.ensures.written in
    let jumped = c.in_ok-jump.ensures.leaves in
    jumped.pending ∙ (put.pending ∙ (again.pending ∙ (right.pending ∙ (tested.pending ∙ short.pending))))

pub put-requires-2-clause-room : goal.put-requires-2-clause-room
put-requires-2-clause-room g c =
    let end = c.in_ok-end.ensures in
    let short = c.in_ok-short.ensures in
    let tested = c.in_ok-jump_where.ensures.written in
    let right = c.in_ok-expr.ensures.written in
    let again = c.in_ok-jump_where-2.ensures.written in
    let put = c.in_ok-put.ensures.written in
    let jumped = c.in_ok-jump.ensures.leaves in
    let bound = c.in_ok-bind.ensures in
    let room = c.requires.room in
    let value = c.operands-height.ensures.value in
    let operands-7 = jumped.operands in
    let operands-8 = bound.operands in
    let floor = ap (λ (l : Level). l.floor) (bound.level ∙ (jumped.level ∙ (put.level ∙ (again.level ∙ (right.level ∙ (tested.level ∙ (short.level ∙ end.level))))))) in
    omega arith

pub bind-requires-2-clause-here : goal.bind-requires-2-clause-here
bind-requires-2-clause-here g c =
    let end = c.in_ok-end.ensures in
    let short = c.in_ok-short.ensures in
    let tested = c.in_ok-jump_where.ensures.written in
    let right = c.in_ok-expr.ensures.written in
    let again = c.in_ok-jump_where-2.ensures.written in
    let put = c.in_ok-put.ensures.written in
    let jumped = c.in_ok-jump.ensures.leaves in
    let bound = c.in_ok-bind.ensures in
    let given = c.in_ok-put-2.ensures.written in
    let labels-7 : StaysIn c.label-2.new.self.labels c.jump.new.self.labels = stays_same c.label-2.new.self.labels c.put.new.self.code.labels c.jump.new.self.labels (λ i x h. put.labels i x (again.labels i x (right.labels i x (tested.labels i x h)))) jumped.labels in
    let labels-9 : StaysIn c.label.new.self.labels c.put-2.new.self.code.labels = λ i x h. given.labels i x (stays_same c.label.new.self.labels c.jump.new.self.labels c.bind.new.self.labels (λ j y k. labels-7 j y (short.labels j y k)) bound.labels i x h) in
    let value = c.operands-height.ensures.value in
    let operands-7 = jumped.operands in
    let operands-8 = bound.operands in
    let operands-9 = given.operands in
    found_there c.label.new.self.labels c.put-2.new.self.code.labels c.in_ok-end.end (spot (c.operands-height.result - 1 + 1) c.args.emitter.now.code.level) (spot (c.put-2.new.self.code.operands) c.put-2.new.self.code.level)
    (labels-9) end.here
    (spot_same (c.operands-height.result - 1 + 1) (c.put-2.new.self.code.operands) c.args.emitter.now.code.level c.put-2.new.self.code.level (omega arith) (ap (λ (l : Level). l.iterators) (sym (given.level ∙ (bound.level ∙ (jumped.level ∙ (put.level ∙ (again.level ∙ (right.level ∙ (tested.level ∙ (short.level ∙ end.level)))))))))) (ap (λ (l : Level). l.bases) (sym (given.level ∙ (bound.level ∙ (jumped.level ∙ (put.level ∙ (again.level ∙ (right.level ∙ (tested.level ∙ (short.level ∙ end.level)))))))))) (ap (λ (l : Level). l.home) (sym (given.level ∙ (bound.level ∙ (jumped.level ∙ (put.level ∙ (again.level ∙ (right.level ∙ (tested.level ∙ (short.level ∙ end.level)))))))))))

pub bind-requires-2-clause-innermost : goal.bind-requires-2-clause-innermost
bind-requires-2-clause-innermost g c =
    let end = c.in_ok-end.ensures in
    let short = c.in_ok-short.ensures in
    let tested = c.in_ok-jump_where.ensures.written in
    let right = c.in_ok-expr.ensures.written in
    let again = c.in_ok-jump_where-2.ensures.written in
    let put = c.in_ok-put.ensures.written in
    let jumped = c.in_ok-jump.ensures.leaves in
    let bound = c.in_ok-bind.ensures in
    let given = c.in_ok-put-2.ensures.written in
    let outers-7 : StaysIn c.label-2.new.self.outers c.jump.new.self.outers = stays_same c.label-2.new.self.outers c.put.new.self.code.outers c.jump.new.self.outers (λ i x h. put.outers i x (again.outers i x (right.outers i x (tested.outers i x h)))) jumped.outers in
    given.pending ∙ (open_again c.jump.new.self.outers c.in_ok-short.short c.label.new.self.pending c.bind.new.self.pending (outers-7 c.in_ok-short.short c.label.new.self.pending short.outer) bound.pending ∙ end.pending)

pub returns-clause-written : goal.returns-clause-written
returns-clause-written g c =
    let old = c.args.emitter.now.code in
    let end = c.in_ok-end.ensures in
    let short = c.in_ok-short.ensures in
    let tested = c.in_ok-jump_where.ensures.written in
    let right = c.in_ok-expr.ensures.written in
    let again = c.in_ok-jump_where-2.ensures.written in
    let put = c.in_ok-put.ensures.written in
    let jumped = c.in_ok-jump.ensures.leaves in
    let bound = c.in_ok-bind.ensures in
    let given = c.in_ok-put-2.ensures.written in
    let labels-7 : StaysIn c.label-2.new.self.labels c.jump.new.self.labels = stays_same c.label-2.new.self.labels c.put.new.self.code.labels c.jump.new.self.labels (λ i x h. put.labels i x (again.labels i x (right.labels i x (tested.labels i x h)))) jumped.labels in
    let labels-9 : StaysIn c.label.new.self.labels c.put-2.new.self.code.labels = λ i x h. given.labels i x (stays_same c.label.new.self.labels c.jump.new.self.labels c.bind.new.self.labels (λ j y k. labels-7 j y (short.labels j y k)) bound.labels i x h) in
    let outers-7 : StaysIn c.label-2.new.self.outers c.jump.new.self.outers = stays_same c.label-2.new.self.outers c.put.new.self.code.outers c.jump.new.self.outers (λ i x h. put.outers i x (again.outers i x (right.outers i x (tested.outers i x h)))) jumped.outers in
    let outers-9 : StaysIn c.label.new.self.outers c.put-2.new.self.code.outers = λ i x h. given.outers i x (stays_same c.label.new.self.outers c.jump.new.self.outers c.bind.new.self.outers (λ j y k. outers-7 j y (short.outers j y k)) bound.outers i x h) in
    let room = c.requires.room in
    let value = c.operands-height.ensures.value in
    let operands-7 = jumped.operands in
    let operands-8 = bound.operands in
    let operands-9 = given.operands in
    let first = c.args.emitter.now in
    let new = record c.put-2.new.self { code = c.bind-2.new.self } in
    written_bound first c.put-2.new.self.code new old.operands c.in_ok-end.end c.bind-2.result
    (omega arith)
    (given.level ∙ (bound.level ∙ (jumped.level ∙ (put.level ∙ (again.level ∙ (right.level ∙ (tested.level ∙ (short.level ∙ end.level))))))))
    (λ i x h. labels-9 i x (end.labels i x h))
    (λ i x h. outers-9 i x (end.outers i x h))
    (outers-9 c.in_ok-end.end _ end.outer)
    (given.loop ∙ (put.loop ∙ (again.loop ∙ (right.loop ∙ tested.loop))))
    c.bind-2.ensures.pending c.bind-2.ensures.labels c.bind-2.ensures.outers c.bind-2.ensures.operands c.bind-2.ensures.level
