use Rattle.std.proofs.Common.{◌↔◌, length}
use Rattle.std.specs.Str.{chars}
use Rattle.grain_base.specs.declared.pos.Site.{Site}
use Rattle.rhai_errors.proofs.Behind.{AreBehind}
use Rattle.rhai_errors.proofs.Listed.{IsListedBy, IsReached}
use Rattle.rhai_errors.proofs.lines.Lines.new.Given as goal

abbrev pub invariant-loop-c : goal.invariant-loop-c
invariant-loop-c l = record {
  behind : AreBehind (chars l.source) (length l.yielded) (length l.lengths.items) l.columns;
  listed : (place : Site) → IsListedBy l.lengths.items l.columns place ↔ IsReached (chars l.source) (length l.yielded) place;
}
