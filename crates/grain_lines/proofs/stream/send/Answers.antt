use Rattle.std.proofs.Common.{◌++◌, take, ◌∙◌}
use Rattle.std.proofs.KnownBytes.{Appends-trans}
use Rattle.grain_lines.proofs.Sending.{parts_more}
use Rattle.grain_lines.proofs.stream.send.Goals as goal

pub sending-preserved : goal.sending-preserved
sending-preserved g c =
    let sent = c.sending.invariant in
    let wrote = c.in_ok-count.ensures in
    record {
      front = sent.front ++ take c.in_ok-count.count c.sending.rest.now;
      parts = parts_more c.args.bytes.now sent.front c.sending.rest.now c.in_ok-count.count sent.parts;
      sent = Appends-trans _ _ _ _ _ sent.sent wrote.bytes;
      unmarked = wrote.unmarked (λ p. c.if-count-eq0.false p.0) ∙ sent.unmarked;
    }
