use Rattle.std.proofs.Common.{◌≡◌, sym, subst}
use Rattle.grain_machine.specs.State.{IsRunnable, IsUnderWay, Runs, state_of}
use Rattle.grain_machine.proofs.frames.Frames.park.Goals as goal

pub returns-clause-parked : goal.returns-clause-parked
returns-clause-parked g c =
    let f = c.args.self in
    let same : (let r : Runs = record { program = f.body.program; chunk = c.chunk-chunk.result; room = c.room-room.result } in r) ≡ f.body =
    λ i. record { program = f.body.program; chunk = c.chunk-chunk.ensures.chunk i; room = c.room-room.ensures i } in
    record {
      runs = subst IsRunnable (sym same) c.chunk-chunk.ensures.runs;
      ready = subst (λ (r : Runs). IsUnderWay r (state_of f.frame)) (sym same) c.requires.ready;
      waiting = c.requires.waiting;
    }
