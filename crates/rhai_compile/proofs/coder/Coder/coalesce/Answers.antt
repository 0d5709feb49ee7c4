use Rattle.std.proofs.Common.{◌+◌, ◌-◌, ap, arith, sym, ◌∙◌}
use Rattle.grain_builder.specs.Unfinished.{Level, StaysIn, spot}
use Rattle.rhai_compile.proofs.Staying.{found_there, spot_same, stands_labelled, stays_same, written_bound}
use Rattle.rhai_emit.proofs.LoopFacts.{stands_after}
use Rattle.rhai_compile.proofs.coder.Coder.coalesce.Goals as goal

pub branch-emitter-requires-clause-room : goal.branch-emitter-requires-clause-room
branch-emitter-requires-clause-room g c =
    let end = c.in_ok-end.ensures in
    let room = c.requires.room in
    let operands-1 = end.operands in
    let floor = ap (λ (l : Level). l.floor) (end.level) in
    omega arith

pub branch-emitter-requires-clause-there : goal.branch-emitter-requires-clause-there
branch-emitter-requires-clause-there g c =
    let end = c.in_ok-end.ensures in
    let height = c.operands-height.ensures.value in
    let operands-1 = end.operands in
    found_there c.label.new.self.labels c.label.new.self.labels c.in_ok-end.end (spot (c.operands-height.result) c.args.emitter.now.code.level) (spot (c.label.new.self.operands - 0) c.label.new.self.level)
    (λ i x h. h) end.here
    (spot_same (c.operands-height.result) (c.label.new.self.operands - 0) c.args.emitter.now.code.level c.label.new.self.level (omega arith) (ap (λ (l : Level). l.iterators) (sym end.level)) (ap (λ (l : Level). l.bases) (sym end.level)) (ap (λ (l : Level). l.home) (sym end.level)))

pub put-requires-clause-room : goal.put-requires-clause-room
put-requires-clause-room g c =
    let end = c.in_ok-end.ensures in
    let skipped = c.in_ok-branch.ensures.leaves in
    let room = c.requires.room in
    let operands-1 = end.operands in
    let operands-2 = skipped.operands in
    let floor = ap (λ (l : Level). l.floor) (skipped.level ∙ end.level) in
    omega arith

pub expr-requires-clause-stands : goal.expr-requires-clause-stands
expr-requires-clause-stands g c =
    let end = c.in_ok-end.ensures in
    let skipped = c.in_ok-branch.ensures.leaves in
    let room = c.requires.room in
    let operands-1 = end.operands in
    let operands-2 = skipped.operands in
    let labels-2 : StaysIn c.label.new.self.labels c.branch-emitter.new.self.labels = stays_same c.label.new.self.labels c.label.new.self.labels c.branch-emitter.new.self.labels (λ i x h. h) skipped.labels in
    let here = stands_labelled c.args.emitter.now c.branch-emitter.new.self (omega arith) (skipped.level ∙ end.level) (λ i x h. labels-2 i x (end.labels i x h)) c.requires.stands in
    let floor = ap (λ (l : Level). l.floor) (skipped.level ∙ end.level) in
    stands_after (record c.args.emitter.now { code = c.branch-emitter.new.self }) c.put.new.self (c.branch-emitter.new.self.operands - 1 + 0) c.in_ok-put.ensures.written (omega arith) here

pub bind-requires-clause-here : goal.bind-requires-clause-here
bind-requires-clause-here g c =
    let end = c.in_ok-end.ensures in
    let skipped = c.in_ok-branch.ensures.leaves in
    let put = c.in_ok-put.ensures.written in
    let right = c.in_ok-expr.ensures.written in
    let room = c.requires.room in
    let height = c.operands-height.ensures.value in
    let operands-1 = end.operands in
    let operands-2 = skipped.operands in
    let operands-3 = put.operands in
    let operands-4 = right.operands in
    let labels-2 : StaysIn c.label.new.self.labels c.branch-emitter.new.self.labels = stays_same c.label.new.self.labels c.label.new.self.labels c.branch-emitter.new.self.labels (λ i x h. h) skipped.labels in
    let labels-4 : StaysIn c.label.new.self.labels c.expr.new.emitter.code.labels = λ i x h. right.labels i x (put.labels i x (labels-2 i x h)) in
    found_there c.label.new.self.labels c.expr.new.emitter.code.labels c.in_ok-end.end (spot (c.operands-height.result) c.args.emitter.now.code.level) (spot (c.expr.new.emitter.code.operands) c.expr.new.emitter.code.level)
    (labels-4) end.here
    (spot_same (c.operands-height.result) (c.expr.new.emitter.code.operands) c.args.emitter.now.code.level c.expr.new.emitter.code.level (omega arith) (ap (λ (l : Level). l.iterators) (sym (right.level ∙ (put.level ∙ (skipped.level ∙ end.level))))) (ap (λ (l : Level). l.bases) (sym (right.level ∙ (put.level ∙ (skipped.level ∙ end.level))))) (ap (λ (l : Level). l.home) (sym (right.level ∙ (put.level ∙ (skipped.level ∙ end.level))))))

pub bind-requires-clause-innermost : goal.bind-requires-clause-innermost
bind-requires-clause-innermost g c =
    let end = c.in_ok-end.ensures in
    let skipped = c.in_ok-branch.ensures.leaves in
    let put = c.in_ok-put.ensures.written in
    let right = c.in_ok-expr.ensures.written in
    right.pending ∙ (put.pending ∙ (skipped.pending ∙ end.pending))

pub returns-clause-written : goal.returns-clause-written
returns-clause-written g c =
    let old = c.args.emitter.now.code in
    let end = c.in_ok-end.ensures in
    let skipped = c.in_ok-branch.ensures.leaves in
    let put = c.in_ok-put.ensures.written in
    let right = c.in_ok-expr.ensures.written in
    let room = c.requires.room in
    let operands-1 = end.operands in
    let operands-2 = skipped.operands in
    let operands-3 = put.operands in
    let operands-4 = right.operands in
    let labels-2 : StaysIn c.label.new.self.labels c.branch-emitter.new.self.labels = stays_same c.label.new.self.labels c.label.new.self.labels c.branch-emitter.new.self.labels (λ i x h. h) skipped.labels in
    let labels-4 : StaysIn c.label.new.self.labels c.expr.new.emitter.code.labels = λ i x h. right.labels i x (put.labels i x (labels-2 i x h)) in
    let outers-2 : StaysIn c.label.new.self.outers c.branch-emitter.new.self.outers = stays_same c.label.new.self.outers c.label.new.self.outers c.branch-emitter.new.self.outers (λ i x h. h) skipped.outers in
    let outers-4 : StaysIn c.label.new.self.outers c.expr.new.emitter.code.outers = λ i x h. right.outers i x (put.outers i x (outers-2 i x h)) in
    let first = c.args.emitter.now in
    let new = record c.expr.new.emitter { code = c.bind.new.self } in
    written_bound first c.expr.new.emitter.code new old.operands c.in_ok-end.end c.bind.result
    (omega arith)
    (right.level ∙ (put.level ∙ (skipped.level ∙ end.level)))
    (λ i x h. labels-4 i x (end.labels i x h))
    (λ i x h. outers-4 i x (end.outers i x h))
    (outers-4 c.in_ok-end.end _ end.outer)
    (right.loop ∙ put.loop)
    c.bind.ensures.pending c.bind.ensures.labels c.bind.ensures.outers c.bind.ensures.operands c.bind.ensures.level
