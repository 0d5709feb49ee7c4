use Rattle.std.proofs.Common.{◌≡◌, ◌≢◌, ◌≤◌, ◌/◌, ◌%◌, sym, ◌∙◌, arith}
use Rattle.std.specs.Int.{bit_at}
use Rattle.std.proofs.lemmas.Nat.Bits.{shr_and_one}
use Rattle.grain_code.proofs.Words.{read_some, read_none, place_of, place_fits, placed, placed_below, unset_unplaced, past_unplaced}
use Rattle.grain_code.proofs.starts.Starts.ordinal.Goals as goal

pub returns-in_err-word-clause-place : goal.returns-in_err-word-clause-place
returns-in_err-word-clause-place c =
    let none = read_none c.deref.result.now c.self.inside.words.items (c.args.at / 64) c.deref.ensures.value c.in_err-word.ensures.lookup.3 in
    rw (c.from_residual.ensures, ← c.self.view_is) (past_unplaced c.self.inside.words.items c.args.at none)

pub returns-then-word-at-eq0-clause-place : goal.returns-then-word-at-eq0-clause-place
returns-then-word-at-eq0-clause-place c =
    let word = c.in_ok-word.word.now in
    let read = c.in_ok-word.ensures.lookup in
    let here = read_some c.deref.result.now c.self.inside.words.items (c.args.at / 64) word c.deref.ensures.value read.3.0 read.1 in
    let unset : bit_at word.bits (c.args.at % 64) ≡ 0 = sym (shr_and_one word.bits (c.args.at % 64)) ∙ c.if-word-at-eq0.true in
    rw (← c.self.view_is) (unset_unplaced c.self.inside.words.items c.args.at word here unset)

pub overflow_add-result : goal.overflow_add-result
overflow_add-result c =
    let word = c.in_ok-word.word.now in
    let read = c.in_ok-word.ensures.lookup in
    let here = read_some c.deref.result.now c.self.inside.words.items (c.args.at / 64) word c.deref.ensures.value read.3.0 read.1 in
    let few : place_of word c.args.at ≤ c.args.at = place_fits c.self.inside.words.items c.self.inside.count c.args.at word c.self.invariant here in
    omega (arith, few, c.ranges.at.fits)

pub returns-clause-place : goal.returns-clause-place
returns-clause-place c =
    let word = c.in_ok-word.word.now in
    let read = c.in_ok-word.ensures.lookup in
    let here = read_some c.deref.result.now c.self.inside.words.items (c.args.at / 64) word c.deref.ensures.value read.3.0 read.1 in
    let set : bit_at word.bits (c.args.at % 64) ≢ 0 = λ zero. c.if-word-at-eq0.false (shr_and_one word.bits (c.args.at % 64) ∙ zero) in
    rw (← c.self.view_is) (placed c.self.inside.words.items c.self.inside.count c.args.at word c.self.invariant here set)

pub returns-clause-below : goal.returns-clause-below
returns-clause-below c =
    let word = c.in_ok-word.word.now in
    let read = c.in_ok-word.ensures.lookup in
    let here = read_some c.deref.result.now c.self.inside.words.items (c.args.at / 64) word c.deref.ensures.value read.3.0 read.1 in
    rw (← c.self.view_is) (placed_below c.self.inside.words.items c.self.inside.count c.args.at word c.self.invariant here)
