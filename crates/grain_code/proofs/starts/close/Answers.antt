use Rattle.std.proofs.Common.{arith}
use Rattle.grain_code.proofs.FilledWords.{filling_word}
use Rattle.grain_code.proofs.starts.close.Goals as goal

pub loop-words-preserved : goal.loop-words-preserved
loop-words-preserved c =
    let s = c.loop-words in
    let pushed = c.push_reserved.ensures in
    record {
      room = omega (arith, pushed.capacity, s.invariant.room);
      behind = omega (arith, pushed.len, c.loop-words-test.true);
      filling = λ starts filling. rw pushed.items (filling_word s.words.items s.current.before s.current.bits c.args.count c.args.end starts (omega (arith, c.loop-words-test.true, c.len.ensures)) (s.invariant.filling starts filling));
    }
