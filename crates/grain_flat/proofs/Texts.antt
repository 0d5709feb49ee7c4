-- The answer of std's reader of texts, as a test.
use Rattle.std.proofs.Common.{◌≡◌, ℕ, List, Bool, true, false, Result, Ok, Err, MatchResult, refl, sym}
use Rattle.std.specs.Result.{is_ok}
use Rattle.std.specs.Str.{IsUtf8, is_utf8}
use Rattle.std.proofs.lemmas.Str.{IsUtf8-from_is_utf8, is_utf8-from_IsUtf8}

pub is_ok-text : {T E : Type 0} (A : T → Type 0) (B : E → Type 0) (bytes : List ℕ) (r : Result T E) → MatchResult r (λ s. A s × IsUtf8 bytes) (λ e. ¬ (IsUtf8 bytes) × B e) → is_ok r ≡ is_utf8 bytes
is_ok-text A B bytes (Ok s) h = sym (is_utf8-from_IsUtf8 bytes h.1)
is_ok-text A B bytes (Err e) h = at (is_utf8 bytes) refl
  where
    at : (b : Bool) → is_utf8 bytes ≡ b → false ≡ is_utf8 bytes
    at true is = absurd (h.0 (IsUtf8-from_is_utf8 bytes is))
    at false is = sym is
