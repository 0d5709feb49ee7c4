use Rattle.std.proofs.Common.{◌/◌, ◌%◌}
use Rattle.std.proofs.lemmas.Nat.Bits.{shr_and_one}
use Rattle.grain_code.proofs.Words.{read_some, read_none, bit_contained, past_contained}
use Rattle.grain_code.proofs.starts.Starts.contains.Goals as goal

pub returns-in-Some : goal.returns-in-Some
returns-in-Some c =
    let read = c.in-Some.ensures.lookup in
    let here = read_some c.deref.result.now c.self.inside.words.items (c.args.at / 64) c.in-Some.word.now c.deref.ensures.value read.3.0 read.1 in
    rw (← c.self.view_is, shr_and_one c.in-Some.word.now.bits (c.args.at % 64)) (bit_contained c.self.inside.words.items c.args.at c.in-Some.word.now here)

pub returns-in-None : goal.returns-in-None
returns-in-None c =
    let none = read_none c.deref.result.now c.self.inside.words.items (c.args.at / 64) c.deref.ensures.value c.in-None.ensures.lookup.3 in
    rw (← c.self.view_is) (λ e. absurd (cc), λ here. absurd (past_contained c.self.inside.words.items c.args.at none here))
