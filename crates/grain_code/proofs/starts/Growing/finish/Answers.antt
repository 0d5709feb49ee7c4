use Rattle.std.proofs.Common.{refl, arith}
use Rattle.grain_code.specs.Starts.{all_bits, set_below}
use Rattle.grain_code.proofs.FilledWords.{filled}
use Rattle.grain_code.proofs.starts.Growing.finish.Goals as goal

pub invariant_of-result : goal.invariant_of-result
invariant_of-result c =
    let s = c.self.inside in
    let grown = c.self.invariant in
    rw c.push_reserved.ensures.items (filled s.words.items s.word.before s.word.bits s.count s.end (set_below (all_bits s.words.items s.word.bits) s.end) (omega (arith, grown.opened)) grown.filling).1

pub returns : goal.returns
returns c =
    let s = c.self.inside in
    let grown = c.self.invariant in
    rw (← c.self.view_is, c.push_reserved.ensures.items, (filled s.words.items s.word.before s.word.bits s.count s.end (set_below (all_bits s.words.items s.word.bits) s.end) (omega (arith, grown.opened)) grown.filling).0) refl
