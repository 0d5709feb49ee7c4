use Rattle.std.specs.List.{AllWithin}
use Rattle.rhai_errors.specs.Places.{HasPlaces}
use Rattle.rhai_syntax.proofs.grammar.place_flaws.Given as goal

abbrev pub invariant-loop-flaw : goal.invariant-loop-flaw
invariant-loop-flaw l = AllWithin (HasPlaces l.source) l.flaws 0 l.flaw-index
