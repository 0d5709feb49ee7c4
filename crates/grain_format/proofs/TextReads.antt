-- What reading a text gives where the bytes are one, and where they aren't.
use Rattle.std.proofs.Common.{◌≡◌, List, ℕ, Ok, Err, refl}
use Rattle.std.specs.Str.{IsUtf8, is_utf8}
use Rattle.std.proofs.lemmas.Str.{IsUtf8-from_is_utf8, is_utf8-from_IsUtf8}
use Rattle.std.proofs.lemmas.Bool.{false_from_ne_true}
use Rattle.grain_format.specs.declared.error.FieldFault.TheVariants.{NotText}
use Rattle.grain_format.specs.Texts.{bytes_at, text_at}

pub text_found : (old bytes left text : List ℕ) → bytes_at old ≡ Ok (bytes, left) → (text ≡ bytes) × IsUtf8 bytes → text_at old ≡ Ok (text, left)
unfolding text_at
text_found old bytes left text e is = rw (e, is_utf8-from_IsUtf8 bytes is.1, is.0) refl

pub text_lost : (old bytes left : List ℕ) → bytes_at old ≡ Ok (bytes, left) → (IsUtf8 bytes → ⊥) → text_at old ≡ Err (NotText, old)
unfolding text_at
text_lost old bytes left e not = let fails = false_from_ne_true (is_utf8 bytes) (λ t. not (IsUtf8-from_is_utf8 bytes t)) in rw (e, fails) refl
