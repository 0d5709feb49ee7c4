-- A piece of one token.
use Rattle.std.proofs.Common.{◌≡◌, refl, ap, subst, ◌∙◌, ℕ, List, [], ◌∷◌, ◌++◌, Bool, true, false, ◌&&◌, Option, Result, Ok, Err, OnOk}
use Rattle.std.specs.Io.KnownBytes.{Appends}
use Rattle.std.proofs.lemmas.List.{append-nil}
use Rattle.json.specs.Token.{Token}
use Rattle.json.specs.Print.{begins, ends, print, print_from, separator, token_text}
use Rattle.json.specs.Written.{Writes, Written}
use Rattle.grain_stream.specs.Stream.{comma_after}

-- a token that begins something has a comma after a value
pub and-true : (b : Bool) → b ≡ (b && true)
and-true true = refl
and-true false = refl

-- a token that ends something has none
pub and-false : (b : Bool) → false ≡ (b && false)
and-false true = refl
and-false false = refl

print-one : (t : Token) → print (t ∷ []) ≡ token_text t
unfolding print_from
print-one t = append-nil (token_text t)

-- what is sent is the text of the token
sent : {E : Type 0} {x : Unit {0}} {old new : Written} {comma : Bool} (after_value : Bool) (t : Token)
    → Writes {E = E} (Ok x) old new t → old.before ≡ comma_after comma → old.tokens ≡ [] → comma ≡ (after_value && begins t)
    → new.before ++ print new.tokens ≡ separator after_value t ++ token_text t
sent {new = new} after_value t writes before tokens commas =
    ap (λ (l : List ℕ). l ++ print new.tokens) (writes.room.0 ∙ before ∙ ap comma_after commas)
    ∙ ap (λ (l : List ℕ). comma_after (after_value && begins t) ++ l) (ap print (writes.ok ∙ ap (λ (l : List Token). l ++ t ∷ []) tokens) ∙ print-one t)

pub adds_token : {E F : Type 0} {x : Unit {0}} {first : Option (List ℕ)} {one two : Written} {comma : Bool} (r : Result (Unit {0}) E) (old end : Option (List ℕ)) (after_value after : Bool) (t : Token)
    → Writes {E = F} (Ok x) one two t → one.before ≡ comma_after comma → one.tokens ≡ [] → comma ≡ (after_value && begins t) → first ≡ old
    → OnOk r (Appends first end (two.before ++ print two.tokens)) → OnOk r (after ≡ ends t)
    → OnOk r (Appends old end (separator after_value t ++ token_text t) × (after ≡ ends t))
adds_token {two = two} (Ok _) old end after_value after t writes before tokens commas same adds place = (
  subst (λ (l : List ℕ). Appends old end l) (sent after_value t writes before tokens commas)
      (subst (λ (o : Option (List ℕ)). Appends o end (two.before ++ print two.tokens)) same adds),
  place,
)
adds_token (Err _) old end after_value after t writes before tokens commas same adds place = _
