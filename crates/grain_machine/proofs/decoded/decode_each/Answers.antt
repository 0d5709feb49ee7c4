use Rattle.std.proofs.Common.{◌+◌, sym, subst}
use Rattle.grain_machine.specs.Decoded.{AreDecoded}
use Rattle.grain_machine.proofs.DecodedCode.{decoded_more}
use Rattle.grain_machine.proofs.decoded.decode_each.Goals as goal

pub loop-at-preserved : goal.loop-at-preserved
loop-at-preserved c =
    let p = c.args.program.now in
    let all = c.loop-at.all.items in
    subst (AreDecoded p (c.loop-at.at + 1)) (sym c.in_ok-push.ensures.items) (decoded_more p c.loop-at.at all c.decoded_at.result c.loop-at.invariant c.decoded_at.ensures)
