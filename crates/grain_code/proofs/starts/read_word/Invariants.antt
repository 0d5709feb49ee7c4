use Rattle.std.proofs.Common.{length, ◌*◌, ◌+◌, ◌-◌, ◌≡◌, ◌≤◌, List}
use Rattle.grain_code.specs.Starts.{ReadTo}
use Rattle.grain_code.specs.declared.starts.Word.{Word}
use Rattle.grain_code.proofs.starts.read_word.Given as goal

abbrev pub invariant-loop-at : goal.invariant-loop-at
invariant-loop-at l = record {
  in_code : l.at ≤ length l.code;
  further : l.from ≤ l.at;
  few : l.count ≤ l.at;
  read : (words : List Word) → 64 * length words ≤ l.from → l.limit ≡ 64 * (length words + 1) → ReadTo l.code words l.before 0 l.before l.from → ReadTo l.code words l.before l.bits l.count l.at;
}

abbrev pub decreases-loop-at : goal.decreases-loop-at
decreases-loop-at l = length l.code - l.at
