-- Where the code of a chunk begins.
use Rattle.std.specs.Prelude.{◌≡◌}
use Rattle.grain_builder.specs.Unfinished.{Unfinished, fresh}

-- nothing is on the stacks, and no label is open
pub record BeginsChunk (code : Unfinished) : Type 0 where
  pub operands : code.operands ≡ 0
  pub level : code.level ≡ fresh code.level.home
  pub pending : code.pending ≡ 0
