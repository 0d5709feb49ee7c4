use Rattle.grain_format.proofs.PutLoop.{left_is, spelled_more, fits_more, decided_more}
use Rattle.grain_format.proofs.lists.put_all.Goals as goal

pub loop-item-preserved : goal.loop-item-preserved
loop-item-preserved g c =
    let before = c.loop-item.invariant in
    let written = c.in_ok-write.ensures in
    let is = left_is g.T.FileField.view c.args.items.now c.loop-item.item-index c.item-item.result c.loop-item-test.true c.item-item.is in
    record {
      spelled = rw written.spelled (spelled_more is g.T.FileField.format.spelling _ _ before.spelled);
      fits = fits_more is g.T.FileField.format.Fits before.fits written.fits;
      decided = decided_more is g.T.FileField.format.refusal _ before.decided written.decides;
    }
