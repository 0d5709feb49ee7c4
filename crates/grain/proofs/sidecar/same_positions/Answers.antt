use Rattle.std.proofs.Common.{◌≡◌, arith}
use Rattle.std.proofs.lemmas.Bool.{false≢true}
use Rattle.grain_base.specs.Place.{place_of}
use Rattle.grain.proofs.RestoredPositions.{placed_alike}
use Rattle.grain.proofs.sidecar.same_positions.Goals as goal

pub returns-then-not-same_place : goal.returns-then-not-same_place
returns-then-not-same_place c = (
  λ yes. absurd (false≢true yes),
  λ e. absurd (
      let alike = placed_alike c.args.some.now c.args.others.now c.loop-index.index c.index-some-index.result c.index-others-index.result (omega arith) (omega arith) e in
      let here : place_of c.index-some-index.result ≡ place_of c.index-others-index.result = cc alike in
      let yes = c.same_place.ensures.1 here in
      let no = c.if-not-same_place.true in
      cc),
)
