-- Refusals with the index of the chunk that is refused.
use Rattle.std.specs.Prelude.{◌≡◌, ◌⊎◌, ℕ, List, None, Some, Ok, Err, Result, Vec}
use Rattle.std.specs.declared.alloc.Global.{Global}
use Rattle.grain_code.specs.Span.{Span}
use Rattle.grain_rules.specs.Accepted.{Input}
use Rattle.grain_rules.specs.Code.{Bytecode}
use Rattle.grain_rules.specs.Flaw.{FlawAt, IsFirstFlaw}
use Rattle.grain_rules.specs.declared.error.VerifyError.{VerifyError}
use Rattle.grain_rules.specs.declared.error.VerifyError.TheVariants.{OutOfMemory}
use Rattle.grain_verify.specs.declared.refusal.Refusal.{Refusal}

-- the result without the index of the chunk
abbrev pub without_chunk : Result (Vec ℕ Global) Refusal → Result (Vec ℕ Global) VerifyError
without_chunk (Ok numbers) = Ok numbers
without_chunk (Err r) = Err r.error

-- memory ran out, in no chunk
pub record RanOutOfMemory (r : Refusal) : Type 0 where
  pub error : r.error ≡ OutOfMemory
  pub chunk : r.chunk ≡ None

-- memory ran out; or it is a flaw of the chunk that it names; or it names no chunk, and is a flaw of what is tested before the chunks
abbrev pub IsLocatedRefusal : Input → Refusal → Type 0
IsLocatedRefusal i r = RanOutOfMemory r ⊎ FlawAt i r.chunk r.error

-- memory ran out, or it is a flaw of the chunk that it names, and each chunk before it passes
abbrev pub IsChunkRefusal : Bytecode → List Span → Refusal → Type 0
IsChunkRefusal code chunks r = RanOutOfMemory r ⊎ ((flaw : IsFirstFlaw code chunks r.error) × (r.chunk ≡ Some flaw.place))
