use Rattle.std.proofs.Common.{◌≡◌, ℕ, List, ◌++◌, length}
use Rattle.std.specs.Prelude.{All}
use Rattle.grain_lines.specs.Lines.{ended_lines}
use Rattle.grain_lines.specs.Words.{Lacks}
use Rattle.grain_lines.specs.Report.{Answers}
use Rattle.grain_lines.proofs.LineLaws.{cases_in}
use Rattle.grain_lines.proofs.report.Report.feed.Given as goal

-- some lines were cut off and answered
abbrev pub invariant-cutting : goal.invariant-cutting
invariant-cutting l = record {
  lines : List (List ℕ);
  whole : l.fn.self.carry.items ++ l.bytes ≡ ended_lines lines ++ (l.self.carry.items ++ l.rest);
  each : All (Lacks 10) lines;
  lacks : Lacks 10 l.self.carry.items;
  answers : Answers (cases_in lines) l.fn.self.verdicts l.self.verdicts;
}

abbrev pub decreases-cutting : goal.decreases-cutting
decreases-cutting l = length l.rest
