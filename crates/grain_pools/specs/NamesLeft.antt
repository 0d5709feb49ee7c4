-- What an iterator over names has left.
use Rattle.std.specs.Prelude.{ℕ, List, drop}
use Rattle.grain_pools.specs.declared.strings.Names.{Names}

abbrev pub names_left : Names → List (List ℕ)
names_left n = drop n.next n.strings.now
