-- What is left of an address table whose entries are read in order.
use Rattle.std.specs.Prelude.{ℕ, List}

-- how many entries are due, the address of the one before them, and the bytes that weren't read yet
pub record EntriesLeft : Type 0 where
  pub count : ℕ
  pub before : ℕ
  pub bytes : List ℕ
