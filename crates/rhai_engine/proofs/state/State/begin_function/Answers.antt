use Rattle.std.proofs.lemmas.Grind.{common_steps}
use Rattle.std.proofs.Common.{arith, rules, Err, Ok, ◌≡◌, ◌+◌, ℕ, ◌∷◌, List, Some, vec_len, slice_get, sym, ap, subst, ◌∙◌}
use Rattle.std.specs.List.{All}
use Rattle.grain_code.specs.Span.{Span}
use Rattle.grain.specs.Program.{Program, chunks_of}
use Rattle.grain.specs.Verified.{Verified}
use Rattle.grain_machine.specs.Resting.{IsParked, parked_stack}
use Rattle.grain_machine.specs.Resuming.{HasReached}
use Rattle.rhai_runtime.specs.Named.{IsFunctionNamed}
use Rattle.rhai_engine.specs.Runs.{IsAskingRun, IsStageOf, IsLast, IsPausedRun, run_chunks, session, stage_status}
use Rattle.rhai_engine.specs.Session.{BeginsFunction, Session, with_run}
use Rattle.rhai_engine.specs.declared.stage.Calling.{Calling}
use Rattle.rhai_engine.specs.declared.stage.Stage.{Stage}
use Rattle.rhai_engine.proofs.Functions.{found_otherwise, function_chunk}
use Rattle.rhai_engine.proofs.Reporting.{begun_session, may_begin_unless}
use Rattle.rhai_engine.proofs.state.State.begin_function.Goals as goal

pub invariant_of-self-2 : goal.invariant_of-self-2
invariant_of-self-2 c =
    let p = c.self.inside.prepared.value.program in
    let d = c.self.inside.bounds.calls in
    let body = c.function-body.result in
    let run = c.in_ok-run.run' in
    let chunk = c.chunk-chunk.result in
    let same = c.function-body.ensures.program ∙ ap (λ (v : Verified). v.program) c.deref-2.ensures in
    let reached = subst (λ (x : Span). HasReached body.program d x 0 (parked_stack run)) (sym c.chunk-chunk.ensures.chunk) (c.in_ok-run.ensures.reached d) in
    let ready : IsPausedRun p d chunk run = record {
      parked = subst (λ (q : Program). IsParked q run) same c.in_ok-run.ensures.parked;
      turns = 0;
      reached = subst (λ (q : Program). HasReached q d chunk 0 (parked_stack run)) same reached;
    } in
    let last = subst (IsStageOf p d) (sym c.replace-last.ensures.value) c.self.invariant.held in
    let waiting = subst (All (IsAskingRun p d)) (sym c.reserve.ensures.items) c.self.invariant.waiting in
    record {
      held = subst (IsStageOf p d) (sym c.begun.ensures.stage) ready;
      waiting = c.begun.ensures.waiting p d last waiting;
      alone = subst (λ (s : Stage). IsLast s c.begun.new.outer.items) (sym c.begun.ensures.stage) tt;
    }

pub returns-clause-ok : goal.returns-clause-ok
returns-clause-ok c =
    let p = c.self.inside.prepared.value.program in
    let d = c.self.inside.bounds.calls in
    let n = c.self.inside.bounds.runs in
    let body = c.function-body.result in
    let chunk = c.chunk-chunk.result in
    let found = c.program-program.ensures.program ∙ ap (λ (v : Verified). v.program) (c.verified.ensures ∙ c.deref.ensures) in
    let count = c.len.ensures in
    let named = subst (λ (n : ℕ). IsFunctionNamed c.program-program.result.now c.args.name.now n c.in-Some.function) count c.in-Some.ensures.found in
    let is = subst (λ (q : Program). IsFunctionNamed q c.args.name.now (vec_len c.args.arguments) c.in-Some.function) found named in
    let among = subst (λ (v : Verified). slice_get (chunks_of v.program) (c.in-Some.function + 1) ≡ Some body.chunk) c.deref-2.ensures c.function-body.ensures.chunk in
    let same = c.chunk-chunk.ensures.chunk ∙ sym (function_chunk p c.in-Some.function is.function body.chunk is.there among) in
    let status = ap (λ (s : Session). s.status) (sym c.self.view_is) in
    let may = may_begin_unless c.replace-last.result (λ ready. c.requires (status ∙ ap stage_status (sym c.replace-last.ensures.value) ∙ ready)) in
    let begun = c.begun.ensures.runs may ∙ ap (λ (s : Stage). chunk ∷ run_chunks s c.reserve.new.self.items) c.replace-last.ensures.value ∙ ap (λ (o : List Calling). chunk ∷ run_chunks c.self.inside.last o) c.reserve.ensures.items in
    let all = begun_session p d n c.self.inside.last c.begun.result c.self.inside.outer.items c.begun.new.outer.items chunk (ap stage_status c.begun.ensures.stage) begun in
    subst (λ (s : Session). BeginsFunction s (session p d n c.begun.result c.begun.new.outer.items) c.args.name.now (vec_len c.args.arguments)) c.self.view_is
    (record {
      index = c.in-Some.function;
      is = is;
      begun = all ∙ ap (with_run (session p d n c.self.inside.last c.self.inside.outer.items)) same;
    })

pub returns-in_err-run-clause-none : goal.returns-in_err-run-clause-none
returns-in_err-run-clause-none c =
    let same = c.program-program.ensures.program ∙ ap (λ (v : Verified). v.program) (c.verified.ensures ∙ c.deref.ensures) ∙ ap (λ (s : Session). s.program) c.self.view_is in
    found_otherwise c.args.self.now.program c.program-program.result.now c.args.name.now c.len.result (vec_len c.args.arguments) c.in-Some.function c.from_residual.result same c.len.ensures c.in-Some.ensures.none (λ missing. grind (arith, common_steps, missing))

pub returns-in_err-reserve-clause-none : goal.returns-in_err-reserve-clause-none
returns-in_err-reserve-clause-none c =
    let same = c.program-program.ensures.program ∙ ap (λ (v : Verified). v.program) (c.verified.ensures ∙ c.deref.ensures) ∙ ap (λ (s : Session). s.program) c.self.view_is in
    found_otherwise c.args.self.now.program c.program-program.result.now c.args.name.now c.len.result (vec_len c.args.arguments) c.in-Some.function c.from_residual-in_err-reserve.result same c.len.ensures c.in-Some.ensures.none (λ missing. grind (arith, common_steps, missing))

pub returns-in-Err-clause-none : goal.returns-in-Err-clause-none
returns-in-Err-clause-none c =
    let same = c.program-program.ensures.program ∙ ap (λ (v : Verified). v.program) (c.verified.ensures ∙ c.deref.ensures) ∙ ap (λ (s : Session). s.program) c.self.view_is in
    found_otherwise c.args.self.now.program c.program-program.result.now c.args.name.now c.len.result (vec_len c.args.arguments) c.in-Some.function (Err c.in-Err.error) same c.len.ensures c.in-Some.ensures.none (c.in-Err.ensures.found)

pub returns-clause-none : goal.returns-clause-none
returns-clause-none c =
    let same = c.program-program.ensures.program ∙ ap (λ (v : Verified). v.program) (c.verified.ensures ∙ c.deref.ensures) ∙ ap (λ (s : Session). s.program) c.self.view_is in
    found_otherwise c.args.self.now.program c.program-program.result.now c.args.name.now c.len.result (vec_len c.args.arguments) c.in-Some.function (Ok tt) same c.len.ensures c.in-Some.ensures.none (λ missing. search rules)
