-- The verdict on a program, with each chunk explained.
use Rattle.std.specs.Prelude.{◌≡◌, [], IfErr}
use Rattle.std.specs.List.{AllZip}
use Rattle.grain_explain.specs.Explaining.{IsExact, IsExplained}
use Rattle.grain_rules.specs.Accepted.{Input}
use Rattle.grain_rules.specs.Flaw.{FlawAt}
use Rattle.grain_rules.specs.Verdict.{IsVerdict, ReachesChunks}
use Rattle.grain_verify.specs.Refusals.{without_chunk}
use Rattle.grain.specs.declared.explanation.Explained.{Explained}

-- the verdict is right about the input, and each chunk is explained if the tests before the chunks pass
pub record IsExplanation (i : Input) (x : Explained) : Type 0 where
  pub verdict : IsVerdict i (without_chunk x.verdict)
  -- a refusal is of the chunk that it names, or names none and is of what is tested before the chunks
  pub located : IfErr x.verdict (λ r. FlawAt i r.chunk r.error)
  -- each chunk has rows that are a stack typing of it and just what is reached, or a flaw with the way to it
  pub explained : ReachesChunks i → AllZip (IsExplained i.code) i.chunks x.chunks.items
  -- and isn't refused exactly where it passes
  pub exact : ReachesChunks i → AllZip (IsExact i.code) i.chunks x.chunks.items
  -- else none is explained
  pub none : (ReachesChunks i → ⊥) → x.chunks.items ≡ []
