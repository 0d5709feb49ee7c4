-- Bytes behind those that were there.
use Rattle.std.proofs.Common.{◌≡◌, ◌+◌, ◌<◌, ℕ, List, [], ◌∷◌, ◌++◌, Result, Ok, Err, OnOk, ap, ◌∙◌, append_assoc, arith}
use Rattle.grain_parse.specs.Widths.{Appends}

pub one_more : (old new : List ℕ) (byte : ℕ) → new ≡ old ++ byte ∷ [] → (count : ℕ) × (0 < count) × Appends count old new
one_more old new byte is = (1, omega arith, record { bytes = byte ∷ []; many = omega arith; behind = is })

-- more bytes behind one
pub appends_more : {T E : Type 0} (n : ℕ) (old mid new : List ℕ) (byte : ℕ) (r : Result T E) → mid ≡ old ++ byte ∷ [] → OnOk r (Appends n mid new)
    → OnOk r ((count : ℕ) × (0 < count) × Appends count old new)
appends_more n old mid new byte (Ok _) is more = (
  n + 1,
  omega arith,
  record {
    bytes = byte ∷ more.bytes;
    many = omega (arith, more.many);
    behind = more.behind ∙ ap (λ (xs : List ℕ). xs ++ more.bytes) is ∙ append_assoc old (byte ∷ []) more.bytes;
  },
)
appends_more n old mid new byte (Err _) is more = tt
