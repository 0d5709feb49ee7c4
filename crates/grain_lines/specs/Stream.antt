-- What writes do.
use Rattle.std.specs.Prelude.{◌≡◌, ℕ, ◌<◌, List, ◌++◌, length, Option, Result, ⊤, MatchResult}
use Rattle.std.specs.Io.KnownBytes.{Appends}

-- an error, or a write of none of some bytes
abbrev pub IsFailedWrite : {E : Type 0} → Result ℕ E → List ℕ → Type 0
IsFailedWrite result bytes = MatchResult result (λ count. (count ≡ 0) × (0 < length bytes)) (λ _. ⊤)

-- a front of the bytes went out, and something is left
pub record SendsFront (old new : Option (List ℕ)) (bytes : List ℕ) : Type 0 where
  pub front : List ℕ
  pub back : List ℕ
  pub parts : bytes ≡ front ++ back
  pub left : 0 < length back
  pub sent : Appends old new front
