-- What is left of code that is read from its beginning.
use Rattle.std.specs.Prelude.{ℕ, List}

-- the bytes that weren't read yet, and the address of the first of them
pub record Unread : Type 0 where
  pub at : ℕ
  pub bytes : List ℕ
