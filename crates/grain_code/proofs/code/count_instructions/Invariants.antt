use Rattle.std.proofs.Common.{length, ◌-◌, ◌≡◌, ◌≤◌, List, take}
use Rattle.grain_code.specs.Split.{AreInstructions}
use Rattle.grain_code.specs.declared.op.Op.{Op}
use Rattle.grain_code.proofs.code.count_instructions.Given as goal

-- the code so far is instructions, and they were counted
abbrev pub invariant-loop-at : goal.invariant-loop-at
invariant-loop-at l = record {
  in_code : l.at ≤ length l.code;
  few : l.count ≤ l.at;
  front : (ops : List Op) × AreInstructions (take l.at l.code) ops × (length ops ≡ l.count);
}

abbrev pub decreases-loop-at : goal.decreases-loop-at
decreases-loop-at l = length l.code - l.at
