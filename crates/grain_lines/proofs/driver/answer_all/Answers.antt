use Rattle.std.proofs.Common.{◌<◌, length, take, ◌∙◌, ap, refl, rules}
use Rattle.grain_lines.proofs.RunLaws.{reading_none, reading_more, reading_cut, reading_failed, reading_left, reading_stopped, reading_all, reading_last_cut, take_none, take_some}
use Rattle.grain_lines.proofs.driver.answer_all.Goals as goal

pub reading-init : goal.reading-init
reading-init g c = record {
  so_far = reading_none _ _ _ _ c.requires.carry c.requires.verdicts;
  room = c.requires.room;
  source_unmarked = refl;
  sink_unmarked = refl;
}

pub feed-requires : goal.feed-requires
feed-requires g c = c.reading.invariant.so_far.cut.lacks

pub reading-preserved : goal.reading-preserved
reading-preserved g c =
    let before = c.reading.invariant in
    let read = c.in-Ok.ensures in
    let sent = c.in-Ok-send_to-2.ensures in
    let some : 0 < length (take c.in-Ok.count c.read.new.buf) = take_some c.in-Ok.count c.read.new.buf c.if-count-eq0.false (search rules) in
    let room : 0 < length c.read.new.buf = search rules in
    record {
      so_far = reading_more before.so_far read.bytes.0 some c.in_ok-feed.ensures sent.ok sent.text sent.summary (ap (λ carry. carry.items) sent.carry);
      room = room;
      source_unmarked = read.unmarked ∙ before.source_unmarked;
      sink_unmarked = sent.unmarked ∙ before.sink_unmarked;
    }

pub returns-in_default-send_to-2-clause-write : goal.returns-in_default-send_to-2-clause-write
returns-in_default-send_to-2-clause-write g c _ =
    reading_cut c.reading.invariant.so_far c.in-Ok.ensures.bytes.0 c.in_ok-feed.ensures c.in_default-send_to-2.ensures.err

pub returns-in_default-clause-read : goal.returns-in_default-clause-read
returns-in_default-clause-read g c _ = reading_failed c.reading.invariant.so_far c.in_default.ensures.bytes

pub returns-clause-read : goal.returns-clause-read
returns-clause-read g c _ = reading_left c.reading.invariant.so_far

pub returns-in_err-feed-clause-memory : goal.returns-in_err-feed-clause-memory
returns-in_err-feed-clause-memory g c _ = reading_stopped _ c.reading.invariant.so_far c.in-Ok.ensures.bytes.0

pub returns-in_err-finish-clause-memory : goal.returns-in_err-finish-clause-memory
returns-in_err-finish-clause-memory g c _ = reading_stopped _ c.reading.invariant.so_far c.in-Ok.ensures.bytes.0

pub returns-then-count-eq0-clause-ok : goal.returns-then-count-eq0-clause-ok
returns-then-count-eq0-clause-ok g c =
    let read = c.in-Ok.ensures.bytes in
    let sent = c.in-Ok-send_to.ensures in
    let room : 0 < length c.read.new.buf = search rules in
    reading_all _ c.reading.invariant.so_far read.0 (take_none c.in-Ok.count _ c.if-count-eq0.true) (read.1 c.if-count-eq0.true room)
    c.in_ok-finish.ensures sent.ok sent.text sent.summary c.summary.ensures

pub returns-in_default-send_to-clause-write : goal.returns-in_default-send_to-clause-write
returns-in_default-send_to-clause-write g c _ =
    let read = c.in-Ok.ensures.bytes in
    let room : 0 < length c.read.new.buf = search rules in
    reading_last_cut _ c.reading.invariant.so_far read.0 (take_none c.in-Ok.count _ c.if-count-eq0.true) (read.1 c.if-count-eq0.true room)
    c.in_ok-finish.ensures c.in_default-send_to.ensures.err
