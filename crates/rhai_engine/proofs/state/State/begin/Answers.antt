use Rattle.std.proofs.Common.{◌≡◌, sym, subst}
use Rattle.grain.specs.Program.{Program}
use Rattle.grain_machine.specs.Resting.{IsParked, parked_stack}
use Rattle.grain_machine.specs.Resuming.{HasReached}
use Rattle.rhai_engine.specs.Runs.{AreRunsOf}
use Rattle.rhai_engine.specs.declared.stage.Stage.TheVariants as stages
use Rattle.rhai_engine.proofs.state.State.begin.Goals.{in-Empty, in_default}
use Rattle.rhai_engine.proofs.state.State.begin.Goals as goal

pub invariant_of-self : goal.invariant_of-self
invariant_of-self c =
    let p = c.self.inside.prepared.value.program in
    let d = c.self.inside.bounds.calls in
    let run = c.in_ok-run.run' in
    let chunk : c.chunk-chunk.result ≡ c.main-main.result.chunk = c.chunk-chunk.ensures.chunk in
    let begun : c.main-main.result.program ≡ p → AreRunsOf p d (stages.Ready c.chunk-chunk.result run) c.self.inside.outer.items = λ same.
    let parked = subst (λ (q : Program). IsParked q run) same c.in_ok-run.ensures.parked in
    let reached = subst (λ (q : Program). HasReached q d c.main-main.result.chunk 0 (parked_stack run)) same (c.in_ok-run.ensures.reached d) in
    record {
      held = record { parked = parked; turns = 0; reached = subst (λ s. HasReached p d s 0 (parked_stack run)) (sym chunk) reached };
      waiting = c.self.invariant.waiting;
      alone = tt;
    } in
    elim c.match-matches.branch [
      | in-Empty w ↦ rw w.self-inside-is (begun cc)
      | in_default w ↦ rw w.self-inside-is (begun cc)
    ]
