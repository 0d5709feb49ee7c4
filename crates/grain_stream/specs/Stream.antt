-- What a stream of JSON writes.
use Rattle.std.specs.Prelude.{◌≡◌, ℕ, List, [], ◌∷◌, ◌++◌, Bool, cond, Option, Result, OnOk}
use Rattle.std.specs.Io.KnownBytes.{Appends}
use Rattle.json.specs.Token.{Token}
use Rattle.json.specs.Print.{ends, separator, token_text}
use Rattle.grain_stream.specs.declared.json_stream.JsonStream.{JsonStream}

-- the writer that is written to
abbrev pub output_of : {W : Type 0} → JsonStream W → W
output_of stream = stream.out

-- whether the last thing written is a value
abbrev pub is_after_value : {W : Type 0} → JsonStream W → Bool
is_after_value stream = stream.after_value

-- the comma between a value and the next
abbrev pub comma_after : Bool → List ℕ
comma_after after_value = cond after_value (44 ∷ []) []

-- The token is appended to the output, with a comma before it if it needs one. The output's bytes are `contents`.
abbrev pub AddsToken : {E : Type 0} {W : Type 0} → Result (Unit {0}) E → (W → Option (List ℕ)) → JsonStream W → JsonStream W → Token → Type 0
AddsToken result contents old new token =
    OnOk result (Appends (contents old.out) (contents new.out) (separator old.after_value token ++ token_text token) × (new.after_value ≡ ends token))
