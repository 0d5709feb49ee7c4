use Rattle.grain_machine_tests.proofs.slices.in_slices.Goals as goal
use Rattle.grain_machine_tests.proofs.slices.in_slices.Goals.{in-Paused, in-Waits, in-Returns, in-Fails+in-Ok}

pub slices-preserved : goal.slices-preserved
slices-preserved c =
    elim c.match-resume.branch [
      | in-Paused w ↦ rw w.run-is w.in-Paused.ensures.resumable
      | in-Waits w ↦ rw w.run-is (elim w.match-answer.branch [
        | in-Returns v ↦ rw v.run-is v.answer-run.ensures.parked
        | in-Fails+in-Ok v ↦ rw v.run-is v.in-Ok.ensures.parked
      ])
    ]
