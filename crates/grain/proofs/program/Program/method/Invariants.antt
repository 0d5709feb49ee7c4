use Rattle.std.proofs.Common.{◌≡◌, None, take}
use Rattle.std.specs.List.{find}
use Rattle.std.specs.Option.{option_copied}
use Rattle.grain.specs.Lookups.{is_typed, is_untyped}
use Rattle.grain.proofs.program.Program.method.Given as goal

abbrev pub invariant-loop-function : goal.invariant-loop-function
invariant-loop-function l = record {
  names : l.receiver.names.now ≡ l.self.names;
  text : l.receiver.text.now ≡ l.typed;
  typed : find (is_typed l.self.names l.name l.argc l.typed) (take l.function-index l.function-items) ≡ None;
  untyped : option_copied l.untyped ≡ find (is_untyped l.name l.argc) (take l.function-index l.function-items);
}
