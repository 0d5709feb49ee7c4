use Rattle.std.proofs.Common.{length, ◌*◌, ◌+◌, ◌-◌, ◌/◌, ◌<◌, ◌≤◌, vec_capacity}
use Rattle.grain_code.specs.Split.{NoneStandsAt}
use Rattle.grain_code.specs.Starts.{ReadTo}
use Rattle.grain_code.proofs.starts.Starts.refill.Given as goal

-- the code is read up to where the front ends so far, in a word behind those that are closed
abbrev pub invariant-loop-front : goal.invariant-loop-front
invariant-loop-front l = record {
  in_code : l.front.end ≤ length l.code;
  few : l.front.count ≤ l.front.end;
  room : length l.code / 64 + 1 ≤ vec_capacity l.words;
  opened : length l.words.items ≤ l.front.end / 64;
  read : ReadTo l.code l.words.items l.front.word.before l.front.word.bits l.front.count l.front.end;
  ended : l.front.end < 64 * (length l.words.items + 1) → NoneStandsAt l.code l.front.end;
}

abbrev pub decreases-loop-front : goal.decreases-loop-front
decreases-loop-front l = length l.code / 64 + 1 - length l.words.items
