-- Events of runs that continue, as contracts of states have them.
use Rattle.std.proofs.Common.{◌≡◌, ◌≢◌, ℕ, List, [], ◌∷◌, ◌++◌, refl, sym, ap, subst, ◌∙◌}
use Rattle.grain_code.specs.Span.{Span}
use Rattle.grain.specs.Program.{Program}
use Rattle.grain_machine.specs.Resuming.{HasEnded}
use Rattle.grain_machine.specs.declared.step.Outcome.{Outcome}
use Rattle.grain_machine.specs.declared.step.Outcome.TheVariants as outcomes
use Rattle.rhai_values.specs.declared.cause.Cause.{Cause}
use Rattle.rhai_values.specs.declared.cause.Cause.TheVariants as causes
use Rattle.rhai_values.specs.declared.value.Value.{Value}
use Rattle.rhai_values.specs.declared.walk.Walk.{Walk}
use Rattle.rhai_chains.specs.declared.fault.Fault.{Fault}
use Rattle.rhai_engine.specs.Ends.{CanEnd, EndsRun, end_by, event_of}
use Rattle.rhai_engine.specs.Runs.{Continues, IsLast, KeepsStage, MayBegin, stage_chunks, outer_chunks, run_chunks, session, stage_status}
use Rattle.rhai_engine.specs.Session.{EndsLast, Reports, Session, with_run, outside_of}
use Rattle.rhai_engine.specs.declared.event.Event.{Event}
use Rattle.rhai_engine.specs.declared.event.Status.{Status}
use Rattle.rhai_engine.specs.declared.event.Status.TheVariants as statuses
use Rattle.rhai_engine.specs.declared.stage.Calling.{Calling}
use Rattle.rhai_engine.specs.declared.stage.Stage.{Stage}
use Rattle.rhai_engine.specs.declared.stage.Stage.TheVariants as stages

-- a run that has ended has done so in one of the ways that there are
pub can_end : (p : Program) (depth : ℕ) (chunk : Span) (turns at : ℕ) (outcome : Outcome Value Fault) → HasEnded Walk p depth chunk turns at outcome → CanEnd outcome
can_end p depth chunk turns at (outcomes.Returned value) ended = tt
can_end p depth chunk turns at (outcomes.Faulted fault) ended = tt
can_end p depth chunk turns at (outcomes.Uncatchable fault) ended = tt
can_end p depth chunk turns at outcomes.OutOfFuel ended = ended.ends
can_end p depth chunk turns at outcomes.OutOfMemory ended = tt
can_end p depth chunk turns at outcomes.Unanswered ended = ended.ends

-- the event of a fault reports the end, also if the script ended itself
reports_fault : (s t : Session) (cause : Cause) (fault : Fault) → EndsLast s t (end_by cause fault) → Reports s t (end_by cause fault)
reports_fault s t (causes.Exited value) fault ends = ends
reports_fault s t cause fault ends = ends

-- the event of the end of the last run is one that reports it
pub reports_end : (s t : Session) (outcome : Outcome Value Fault) → CanEnd outcome → EndsLast s t (event_of outcome) → Reports s t (event_of outcome)
reports_end s t (outcomes.Returned value) can ends = ends
reports_end s t (outcomes.Faulted fault) can ends = reports_fault s t fault.cause fault ends
reports_end s t (outcomes.Uncatchable fault) can ends = reports_fault s t fault.cause fault ends
reports_end s t outcomes.OutOfFuel can ends = absurd can
reports_end s t outcomes.OutOfMemory can ends = ends
reports_end s t outcomes.Unanswered can ends = absurd can

reports_ended : (s t : Session) (chunk : Span) (event : Event) → s.runs ≡ chunk ∷ t.runs → EndsRun s.program s.calls chunk event → Reports s t event
reports_ended s t chunk event was ends =
    let can = can_end s.program s.calls chunk ends.turns ends.at ends.outcome ends.ended in
    let same : EndsRun s.program s.calls chunk (event_of ends.outcome) = subst (EndsRun s.program s.calls chunk) ends.is ends in
    let last : EndsLast s t (event_of ends.outcome) = record { chunk = chunk; was = was; ends = same } in
    subst (Reports s t) (sym ends.is) (reports_end s t ends.outcome can last)

-- A run of the chunk, the last one, has continued, and the runs are as the call left them. The event reports that.
pub reports : (p : Program) (depth nested : ℕ) (chunk : Span) (last stage result : Stage) (outer after : List Calling) (event : Event)
    → stage_chunks last ≡ chunk ∷ []
    → Continues p depth chunk stage event
    → run_chunks result after ≡ stage_chunks stage ++ outer_chunks outer
    → KeepsStage stage result
    → Reports (session p depth nested last outer) (session p depth nested result after) event
reports p depth nested chunk last stages.Empty result outer after event was continues runs keeps =
    let before : run_chunks last outer ≡ chunk ∷ outer_chunks outer = ap (λ (chunks : List Span). chunks ++ outer_chunks outer) was in
    reports_ended (session p depth nested last outer) (session p depth nested result after) chunk event
    (before ∙ ap (λ (rest : List Span). chunk ∷ rest) (sym runs)) continues.follows
reports p depth nested chunk last (stages.Ready c run) result outer after event was continues runs keeps =
    let before : run_chunks last outer ≡ chunk ∷ outer_chunks outer = ap (λ (chunks : List Span). chunks ++ outer_chunks outer) was in
    let now : run_chunks result after ≡ chunk ∷ outer_chunks outer = runs ∙ ap (λ (x : Span). x ∷ outer_chunks outer) continues.follows.0 in
    subst (Reports (session p depth nested last outer) (session p depth nested result after)) (sym continues.follows.1)
    (now ∙ sym before, ap stage_status keeps)
reports p depth nested chunk last (stages.Asking calling) result outer after event was continues runs keeps =
    let before : run_chunks last outer ≡ chunk ∷ outer_chunks outer = ap (λ (chunks : List Span). chunks ++ outer_chunks outer) was in
    let now : run_chunks result after ≡ chunk ∷ outer_chunks outer = runs ∙ ap (λ (x : Span). x ∷ outer_chunks outer) continues.follows.0 in
    subst (Reports (session p depth nested last outer) (session p depth nested result after)) (sym continues.follows.1)
    (now ∙ sym before, ap stage_status keeps)

-- without the last run, those outside it are left
pub stopped_runs : (last : Stage) (outer : List Calling) → IsLast last outer → outside_of (run_chunks last outer) ≡ outer_chunks outer
stopped_runs stages.Empty outer alone = subst (λ (o : List Calling). outside_of (run_chunks stages.Empty o) ≡ outer_chunks o) (sym alone) refl
stopped_runs (stages.Ready chunk run) outer alone = refl
stopped_runs (stages.Asking calling) outer alone = refl

pub may_begin_unless : (last : Stage) → stage_status last ≢ statuses.Ready → MayBegin last
may_begin_unless stages.Empty unready = tt
may_begin_unless (stages.Ready chunk run) unready = unready refl
may_begin_unless (stages.Asking calling) unready = tt

-- a run of the chunk has begun on top of those that wait
pub begun_session : (p : Program) (depth nested : ℕ) (last result : Stage) (outer after : List Calling) (chunk : Span)
    → stage_status result ≡ statuses.Ready
    → run_chunks result after ≡ chunk ∷ run_chunks last outer
    → session p depth nested result after ≡ with_run (session p depth nested last outer) chunk
begun_session p depth nested last result outer after chunk ready runs =
    let with_status : Status → Session = λ status. record { program = p; calls = depth; nested = nested; status = status; runs = run_chunks result after } in
    let with_runs : List Span → Session = λ all. record { program = p; calls = depth; nested = nested; status = statuses.Ready; runs = all } in
    ap with_status ready ∙ ap with_runs runs
