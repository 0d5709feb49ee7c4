use Rattle.std.proofs.Common.{◌≡◌, ◌/◌, ◌-◌, ◌≤◌, ℕ, List, length, vec_capacity}
use Rattle.grain_code.specs.Starts.{Filling}
use Rattle.grain_code.proofs.starts.close.Given as goal

-- what was filled is so still, in a word behind those that are closed
abbrev pub invariant-loop-words : goal.invariant-loop-words
invariant-loop-words l = record {
  room : vec_capacity l.words ≡ vec_capacity l.fn.words;
  behind : length l.words.items ≤ l.end / 64;
  filling : (starts : List ℕ) → Filling l.fn.words.items l.fn.word.before l.fn.word.bits l.count l.end starts
      → Filling l.words.items l.current.before l.current.bits l.count l.end starts;
}

abbrev pub decreases-loop-words : goal.decreases-loop-words
decreases-loop-words l = l.end / 64 - length l.words.items
