-- The places of the bodies of functions.
use Rattle.std.specs.Prelude.{List, map}
use Rattle.rhai_emit.specs.Places.{Places, all_of, both, here, list_places}
use Rattle.rhai_emit.specs.declared.signatures.Body.{Body}

-- where the function begins, and the places of its statements
abbrev pub body_places : Body → Places
body_places body = both (here body.place) (list_places body.statements.items)

abbrev pub bodies_places : List Body → Places
bodies_places bodies = all_of (map body_places bodies)
