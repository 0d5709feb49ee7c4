-- Where the edges of a chunk lead.
use Rattle.std.proofs.Common.{◌≡◌, ◌↔◌, ◌⊎◌, inl, inr, ℕ, ◌<◌, Bool, true, false, cond, List, [], ◌∷◌, refl, sym, ap, subst, ◌∙◌, arith}
use Rattle.std.specs.List.{Contains}
use Rattle.grain_code.specs.Span.{Span}
use Rattle.grain_rules.specs.Accepted.{IsFramed}
use Rattle.grain_rules.specs.Code.{Bytecode, coded}
use Rattle.grain_rules.specs.Counts.{Counts}
use Rattle.grain_rules.specs.Flaw.{FallsOff}
use Rattle.grain_rules.specs.Typing.{IsInChunk, Reached, begin, onward}
use Rattle.grain_rules.proofs.Splits.{in_nil, in_cons, in_head, in_tail, next_start}
use Rattle.grain_verify.specs.Arrivals.{Coming, all_to}
use Rattle.grain_verify.specs.Graph.{along, at_start}
use Rattle.grain_verify.specs.Progress.{Walks}
use Rattle.grain_rules.proofs.CountGrowth.{IsSmall, edge_small}

-- what is on its way to each of these addresses
pub jumps_to : (c : Counts) (ts : List ℕ) (x : Coming) → Contains (all_to c ts) x ↔ (Contains ts x.0 × (x.1 ≡ c))
jumps_to c [] x = (λ k. absurd (in_nil x k), λ h. absurd (in_nil x.0 h.0))
jumps_to c (t ∷ ts) x = (
  λ k. elim (in_cons (t, c) (all_to c ts) x k) [
    | inl e ↦ (subst (λ (y : Coming). Contains (t ∷ ts) y.0) e (in_head t ts), ap (λ (y : Coming). y.1) (sym e))
    | inr m ↦ let h = (jumps_to c ts x).0 m in (in_tail t ts x.0 h.0, h.1)
  ],
  λ h. elim (in_cons t ts x.0 h.0) [
    | inl e ↦ subst (Contains (all_to c (t ∷ ts))) (λ i. (e i, sym h.1 i)) (in_head (t, c) (all_to c ts))
    | inr m ↦ in_tail (t, c) (all_to c ts) x ((jumps_to c ts x).1 (m, h.1))
  ],
)

-- what falls through
pub falls_in : (b : Bool) (y x : Coming) → Contains (cond b (y ∷ []) []) x ↔ ((b ≡ true) × (x.0 ≡ y.0) × (x.1 ≡ y.1))
falls_in true y x = (
  λ k. elim (in_cons y [] x k) [
    | inl e ↦ (refl, ap (λ (z : Coming). z.0) (sym e), ap (λ (z : Coming). z.1) (sym e))
    | inr m ↦ absurd (in_nil x m)
  ],
  λ h. (let (t, p, q) = h in subst (Contains (y ∷ [])) (λ i. (sym p i, sym q i)) (in_head y [])),
)
falls_in false y x = (λ k. absurd (in_nil x k), λ h. absurd (let e = h.0 in cc))

-- a place of the chunk, or its end, to which something falls off
abbrev pub Lands : Bytecode → Span → ℕ → Type 0
Lands code chunk at = IsInChunk (coded code) chunk at ⊎ ((at ≡ chunk.end) × FallsOff code chunk)

module _ (code : Bytecode) (chunk : Span) where
  pub walks_reached : (l : ℕ) (x : Coming) → Walks code chunk l x → Reached (coded code) chunk x.0 x.1
  walks_reached l x at_start = begin
  walks_reached l y (along {n} {x} p (op, v, e)) = onward (walks_reached n x p) v.passes e

  -- counts grow by at most one along each edge
  pub walks_small : (l : ℕ) (x : Coming) → Walks code chunk l x → IsSmall l x.1
  walks_small l x at_start = record { operands = omega arith; iterators = omega arith }
  walks_small l y (along {n} {x} p (op, v, e)) =
      let s = edge_small (coded code) op x.0 n x.1 y.0 y.1 v.passes.meets (walks_small n x p) e in
      record { operands = (let o = s.operands in omega arith); iterators = (let i = s.iterators in omega arith) }

  pub walks_lands : IsFramed code chunk → chunk.entry < chunk.end → (l : ℕ) (x : Coming) → Walks code chunk l x → Lands code chunk x.0
  walks_lands f holds l x at_start = inl (record { entry = omega arith; end = holds; place = f.entry })
  walks_lands f holds l y (along {n} {x} p (op, v, inl j)) = inl (v.inside y.0 j.0)
  walks_lands f holds l y (along {n} {x} p (op, v, inr g)) =
      let w = v.passes.stands.within in
      elim (next_start code.bytes x.0 chunk.end op w.place f.end v.passes.stands.is w.end f.inside) [
        | inl k ↦ inl (subst (IsInChunk (coded code) chunk) (sym g.1) (record { entry = (let e = w.entry in omega arith); end = k.0; place = k.1 }))
        | inr e ↦ inr (g.1 ∙ e, record { at = x.0; counts = x.1; op = op; reached = walks_reached n x p; passes = v.passes; goes = g.0; end = e })
      ]
