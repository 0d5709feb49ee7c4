-- What a count of slots says of one instruction more, and of runs.
use Rattle.std.proofs.Common.{◌≡◌, ℕ, ◌+◌, ◌<◌, ◌⊎◌, inl, inr, max, List, [], ◌∷◌, ◌++◌, Option, Some, None, refl, sym, ap, subst, arith, ◌∙◌}
use Rattle.std.proofs.lemmas.Bool.{cases_lt}
use Rattle.std.proofs.lemmas.List.Elements.{Contains-append_left, Contains-push, Contains-push_cases}
use Rattle.std.proofs.lemmas.Option.{none-some, same_Some}
use Rattle.grain_code.specs.Span.{Span}
use Rattle.grain_code.specs.declared.op.Op.{Op}
use Rattle.grain_rules.specs.Accepted.{ChunkPasses}
use Rattle.grain_rules.specs.Code.{Bytecode, coded}
use Rattle.grain_rules.specs.Machine.{Finds, Machine}
use Rattle.grain_rules.proofs.Splits.{in_nil}
use Rattle.grain_needs.specs.Slots.{AreSlots, IsSlotCount, named_slot}
use Rattle.grain_needs.proofs.Disassemblies.{body_has}

pub count_none : (chains : List (Option ℕ)) → IsSlotCount chains [] 0
count_none chains = record { above = λ item slot has e. absurd (in_nil item has); attained = inl refl }

-- one instruction more that names no slot
count_other : (chains : List (Option ℕ)) (items : List (ℕ × Op)) (item : ℕ × Op) (n : ℕ) → IsSlotCount chains items n → named_slot chains item.1 ≡ None → IsSlotCount chains (items ++ item ∷ []) n
count_other chains items item n h none = record {
  above = λ x slot has e. elim (Contains-push_cases items item x has) [
    | inl before ↦ h.above x slot before e
    | inr same ↦ absurd (none-some slot (sym none ∙ ap (λ (y : ℕ × Op). named_slot chains y.1) same ∙ e))
  ];
  attained = elim h.attained [
    | inl zero ↦ inl zero
    | inr a ↦ inr (a.0, a.1, Contains-append_left items (item ∷ []) a.0 a.2, a.3, a.4)
  ];
}

larger : (a b : ℕ) → (max a b ≡ a) ⊎ (max a b ≡ b)
larger a b = elim (cases_lt a b) [ inl below ↦ inr (omega arith) | inr above ↦ inl (omega arith) ]

-- one instruction more that names this slot
count_named : (chains : List (Option ℕ)) (items : List (ℕ × Op)) (item : ℕ × Op) (n slot : ℕ) → IsSlotCount chains items n → named_slot chains item.1 ≡ Some slot → IsSlotCount chains (items ++ item ∷ []) (max n (slot + 1))
count_named chains items item n slot h some = record {
  above = λ x s has e. elim (Contains-push_cases items item x has) [
    | inl before ↦ let below = h.above x s before e in omega arith
    | inr same ↦ let is : slot ≡ s = same_Some slot s (sym some ∙ ap (λ (y : ℕ × Op). named_slot chains y.1) same ∙ e) in omega arith
  ];
  attained = elim (larger n (slot + 1)) [
    | inl old ↦ elim h.attained [
      | inl zero ↦ inl (old ∙ zero)
      | inr a ↦ inr (a.0, a.1, Contains-append_left items (item ∷ []) a.0 a.2, a.3, old ∙ a.4)
    ]
    | inr new ↦ inr (item, slot, Contains-push items item, some, new)
  ];
}

-- one instruction more, which names this slot or none
pub count_more : (chains : List (Option ℕ)) (items : List (ℕ × Op)) (item : ℕ × Op) (n m : ℕ) → IsSlotCount chains items n → (named : Option ℕ) → named_slot chains item.1 ≡ named
    → (named ≡ None → m ≡ n) → ((slot : ℕ) → named ≡ Some slot → m ≡ max n (slot + 1)) → IsSlotCount chains (items ++ item ∷ []) m
count_more chains items item n m h None is none some = subst (IsSlotCount chains (items ++ item ∷ [])) (sym (none refl)) (count_other chains items item n h is)
count_more chains items item n m h (Some slot) is none some = subst (IsSlotCount chains (items ++ item ∷ [])) (sym (some slot refl)) (count_named chains items item n slot h is)

-- in a chunk that passes, what a machine finds names a slot below the count
pub found_below : (code : Bytecode) (chunk : Span) → ChunkPasses code chunk → (chains : List (Option ℕ)) (n : ℕ) → AreSlots chains code.bytes chunk n
    → (m : Machine) (op : Op) → Finds (coded code) chunk m op → (slot : ℕ) → named_slot chains op ≡ Some slot → slot < n
found_below code chunk passes chains n counted m op found slot e =
    let f = passes.framed in
    let within = found.stands.within in
    counted.2.above (m.address, op) slot (body_has code.bytes chunk counted.0 counted.1 f.entry f.end f.inside m.address op within.entry within.end within.place found.stands.is) e
