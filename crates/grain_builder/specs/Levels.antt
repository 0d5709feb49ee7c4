-- What the fields of a level say.
use Rattle.std.specs.Prelude.{map}
use Rattle.grain_rules.specs.Counts as counts
use Rattle.grain_builder.specs.Unfinished.{Level}
use Rattle.grain_builder.specs.declared.level.Base.{Base}
use Rattle.grain_builder.specs.declared.level.Level.TheInside.{Inside}

abbrev pub level_base : Base → counts.Base
level_base b = record { operands = b.operands; iterators = b.iterators }

abbrev pub level_of : Inside → Level
level_of f = record { floor = f.floor; least = f.least; iterators = f.iterators; bases = map level_base f.bases.items; home = f.home }
