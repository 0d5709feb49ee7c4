use Rattle.std.proofs.Common.{◌≡◌, map, take, string_bytes}
use Rattle.grain_pools.specs.Names.{texts}
use Rattle.grain_parse.proofs.draft.names_of.Given as goal

abbrev pub invariant-loop-name : goal.invariant-loop-name
invariant-loop-name l = texts l.texts.items ≡ map string_bytes (take l.name-index l.names)
