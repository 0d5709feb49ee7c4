-- What is known of names and chains, and one entry more.
use Rattle.std.proofs.Common.{◌≡◌, ◌⊎◌, inl, inr, ℕ, zero, suc, List, [], ◌∷◌, get_or, replicate, slice_set, Option, Some, None, refl, sym, ap, ◌∙◌}
use Rattle.std.specs.Option.{unwrap_or}
use Rattle.std.proofs.lemmas.Option.{none-some}
use Rattle.grain_base.specs.declared.caps.Caps.{Caps}
use Rattle.grain_verify.specs.Asked.{AreKnown}

none_at : (n k : ℕ) (c : Caps) → get_or (replicate n None) k None ≡ Some c → ⊥
none_at zero k c e = none-some c e
none_at (suc n) zero c e = none-some c e
none_at (suc n) (suc k) c e = none_at n k c e

pub none_known : (asks : List ℕ) (n : ℕ) → AreKnown asks (replicate n None)
none_known asks n k c e = absurd (none_at n k c e)

pub nothing_known : (asks : List ℕ) → AreKnown asks []
nothing_known asks k c e = absurd (none-some c e)

-- what is at an index once an entry is set
at_entry : (known : List (Option Caps)) (i k : ℕ) (x y : Caps) → get_or (slice_set known i (Some x)) k None ≡ Some y → (get_or known k None ≡ Some y) ⊎ ((i ≡ k) × (x ≡ y))
at_entry [] i k x y e = inl e
at_entry (z ∷ known) zero zero x y e = inr (refl, ap (λ (o : Option Caps). unwrap_or o x) e)
at_entry (z ∷ known) zero (suc k) x y e = inl e
at_entry (z ∷ known) (suc i) zero x y e = inl e
at_entry (z ∷ known) (suc i) (suc k) x y e = elim (at_entry known i k x y e) [
  | inl before ↦ inl before
  | inr (here, same) ↦ inr (ap suc here, same)
]

pub known_more : (asks : List ℕ) (known : List (Option Caps)) (i : ℕ) (caps : Caps) → AreKnown asks known → caps.0 ≡ get_or asks i 0 → AreKnown asks (slice_set known i (Some caps))
known_more asks known i caps before is k c e = elim (at_entry known i k caps c e) [
  | inl there ↦ before k c there
  | inr (here, same) ↦ ap (λ (x : Caps). x.0) (sym same) ∙ is ∙ ap (λ n. get_or asks n 0) here
]
