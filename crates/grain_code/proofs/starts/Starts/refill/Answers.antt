use Rattle.std.proofs.Common.{[], ◌∙◌, refl, arith}
use Rattle.std.proofs.Math.Nat.{div-add-mod}
use Rattle.grain_code.specs.Split.{starts_from}
use Rattle.grain_code.proofs.FilledWords.{filled, filling_none, filling_word}
use Rattle.grain_code.proofs.Fronts.{whole_front}
use Rattle.grain_code.proofs.starts.Starts.refill.Goals as goal

pub loop-front-init : goal.loop-front-init
loop-front-init c =
    let room = c.in_ok-try_reserve_exact.ensures in
    let none = room.items ∙ c.clear.ensures.items in
    let read = c.read_word-front.ensures in
    let empty = room.len ∙ c.clear.ensures.len in
    record {
      in_code = read.inside;
      few = read.few;
      room = omega (arith, room.ok);
      opened = omega (arith, empty);
      read = rw none (read.read [] (omega arith) refl ([], record { each = tt; whole = refl }, filling_none));
      ended = λ early. read.ended (omega (arith, empty, early));
    }

pub loop-front-preserved : goal.loop-front-preserved
loop-front-preserved c =
    let s = c.loop-front in
    let front = s.invariant.read in
    let pushed = c.push_reserved.ensures in
    let long = pushed.len in
    let read = c.read_word-front-in-loop-front.ensures in
    let filling = filling_word s.words.items s.front.word.before s.front.word.bits _ _ (starts_from 0 front.0) (omega (arith, c.loop-front-test.true)) front.2 in
    record {
      in_code = read.inside;
      few = read.few;
      room = omega (arith, s.invariant.room, pushed.capacity);
      opened = let f = read.further in omega (arith, long, c.loop-front-test.true);
      read = read.read _ (omega (arith, long, c.loop-front-test.true, div-add-mod s.front.end 64)) (omega arith) (front.0, front.1, rw pushed.items filling);
      ended = λ early. read.ended (omega (arith, early));
    }

pub invariant_of-result : goal.invariant_of-result
invariant_of-result c =
    let s = c.loop-front in
    let front = s.invariant.read in
    rw c.push_reserved-2.ensures.items (filled s.words.items s.front.word.before s.front.word.bits s.front.count s.front.end (starts_from 0 front.0) (omega (arith, c.loop-front-test.false)) front.2).1

pub returns-clause-front : goal.returns-clause-front
returns-clause-front c =
    let s = c.loop-front in
    let front = s.invariant.read in
    let late = c.loop-front-test.false in
    let these = (filled s.words.items s.front.word.before s.front.word.bits s.front.count s.front.end (starts_from 0 front.0) (omega (arith, late)) front.2).0 in
    record {
      inside = s.invariant.in_code;
      splits = (front.0, front.1, rw c.push_reserved-2.ensures.items these);
      longest = s.invariant.ended (omega (arith, late, div-add-mod s.front.end 64));
    }

pub returns-clause-whole : goal.returns-clause-whole
returns-clause-whole c starts split =
    whole_front c.args.code.now starts _ (returns-clause-front c) split
