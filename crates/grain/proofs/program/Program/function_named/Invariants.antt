use Rattle.std.proofs.Common.{◌≡◌, None, take}
use Rattle.std.specs.List.{find}
use Rattle.grain.specs.Lookups.{is_named}
use Rattle.grain.proofs.program.Program.function_named.Given as goal

abbrev pub invariant-loop-function : goal.invariant-loop-function
invariant-loop-function l = record {
  names : l.sought.names.now ≡ l.self.names;
  text : l.sought.text.now ≡ l.name;
  none : find (is_named l.self.names l.name l.argc) (take l.function-index l.function-items) ≡ None;
}
