-- The capabilities that a script is compiled for.
use Rattle.std.specs.Prelude.{ℕ}

-- all fifteen, as a number
abbrev pub every_capability : ℕ
every_capability = 0x7fff
