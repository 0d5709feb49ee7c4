-- What is said of an entry, among what is said of all.
use Rattle.std.proofs.Common.{◌≡◌, ℕ, zero, suc, List, [], ◌∷◌, ◌++◌, map, get_or, slice_get, Option, Some, None, refl, sym, ap}
use Rattle.std.specs.List.{Contains}
use Rattle.std.specs.Option.{unwrap_or}
use Rattle.std.proofs.lemmas.Option.{none-some}
use Rattle.std.proofs.lemmas.List.Elements.{Contains-append_right}
use Rattle.grain_pools.specs.Dispatch.{Case, arms, listed}
use Rattle.grain_pools.specs.declared.switch.Switch.{Switch}
use Rattle.grain_pools.specs.declared.switch.SwitchRange.{SwitchRange}
use Rattle.grain_rules.specs.Code.{switch_targets}
use Rattle.grain_rules.proofs.Splits.{in_head}

pub said_at : {A B C : Type 0} (f : A → B) (g : B → C) (xs : List A) (i : ℕ) (x : A) (d : C) → slice_get xs i ≡ Some x → get_or (map g (map f xs)) i d ≡ g (f x)
said_at f g [] i x d e = absurd (none-some x e)
said_at {A} f g (y ∷ xs) zero x d e = ap (λ (o : Option A). g (f (unwrap_or o x))) e
said_at f g (y ∷ xs) (suc i) x d e = said_at f g xs i x d e

-- nothing past a list
pub said_past : {A B : Type 0} (f : A → B) (xs : List A) (i : ℕ) (d : B) → slice_get xs i ≡ None → get_or (map f xs) i d ≡ d
said_past f [] i d e = refl
said_past f (x ∷ xs) zero d e = absurd (none-some x (sym e))
said_past f (x ∷ xs) (suc i) d e = said_past f xs i d e

pub said_nowhere : {A B C : Type 0} (f : A → B) (g : B → C) (xs : List A) (i : ℕ) (d : C) → slice_get xs i ≡ None → get_or (map g (map f xs)) i d ≡ d
said_nowhere f g [] i d e = refl
said_nowhere f g (x ∷ xs) zero d e = absurd (none-some x (sym e))
said_nowhere f g (x ∷ xs) (suc i) d e = said_nowhere f g xs i d e

-- where a switch goes by default is one of its targets
pub default_named : (s : Switch) → Contains (switch_targets s) s.default
default_named s =
    Contains-append_right (map (λ (c : Case). c.1.0) (listed (arms s).cases) ++ map (λ (r : SwitchRange). r.target) s.ranges.items) (s.default ∷ []) s.default (in_head s.default [])
