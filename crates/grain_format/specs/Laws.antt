-- Steps of reading that didn't fail, and bytes of a part.
use Rattle.std.proofs.Common.{◌≡◌, ℕ, suc, ◌+◌, Bool, true, false, cond, List, ◌∷◌, ◌++◌, length, Result, Ok, Err, refl, inl, inr, ◌⊎◌}
use Rattle.std.proofs.lemmas.List.{get_or-append-add}
use Rattle.grain_format.specs.Reading.{LocatedFault, ◌>>=◌, AreBytes}

pub bind_ok : {A B : Type 0} (r : Result A LocatedFault) (f : A → Result B LocatedFault) (y : B) → (r >>= f) ≡ Ok y → (x : A) × (r ≡ Ok x) × (f x ≡ Ok y)
bind_ok (Ok x) f y e = (x, refl, e)
bind_ok (Err d) f y e = absurd cc

-- which way a test went
pub chosen : {A : Type 0} (b : Bool) (x y z : A) → cond b x y ≡ z → ((b ≡ true) × (x ≡ z)) ⊎ ((b ≡ false) × (y ≡ z))
chosen true x y z e = inl (refl, e)
chosen false x y z e = inr (refl, e)

abbrev done : {A E : Type 0} → A → Result A E
done x = Ok x

pub ok_is : {A E : Type 0} (x y : A) → done {E = E} x ≡ done {E = E} y → x ≡ y
ok_is x y e = cc

pub rest_are_bytes : (front rest : List ℕ) → AreBytes (front ++ rest) → AreBytes rest
rest_are_bytes front rest bytes = record { each = λ i. rw (get_or-append-add front rest i 0) at (bytes.each (length front + i)) }

pub tail_are_bytes : (b : ℕ) (rest : List ℕ) → AreBytes (b ∷ rest) → AreBytes rest
tail_are_bytes b rest bytes = record { each = λ i. bytes.each (suc i) }
