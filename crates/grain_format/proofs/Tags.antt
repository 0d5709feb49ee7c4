-- A byte that is no tag of a value.
use Rattle.std.proofs.Common.{◌≡◌, ◌-◌, ◌<◌, ◌≤◌, ℕ, zero, suc, List, ◌∷◌, Result, Err, refl, arith}
use Rattle.grain_format.specs.declared.error.FieldFault.TheVariants.{UnknownTag}
use Rattle.grain_format.specs.Reading.{LocatedFault}
use Rattle.grain_format.specs.Form.{Form}
use Rattle.grain_format.specs.FormAt.{behind_tag, value_at}

no_tag : (value : List ℕ → Result (Form × List ℕ) LocatedFault) (tag : ℕ) (bytes : List ℕ) → 13 < tag → behind_tag value tag bytes ≡ Err (UnknownTag, tag ∷ bytes)
unfolding behind_tag
no_tag value zero bytes big = absurd (omega arith)
no_tag value (suc zero) bytes big = absurd (omega arith)
no_tag value (suc (suc zero)) bytes big = absurd (omega arith)
no_tag value (suc (suc (suc zero))) bytes big = absurd (omega arith)
no_tag value (suc (suc (suc (suc zero)))) bytes big = absurd (omega arith)
no_tag value (suc (suc (suc (suc (suc zero))))) bytes big = absurd (omega arith)
no_tag value (suc (suc (suc (suc (suc (suc zero)))))) bytes big = absurd (omega arith)
no_tag value (suc (suc (suc (suc (suc (suc (suc zero))))))) bytes big = absurd (omega arith)
no_tag value (suc (suc (suc (suc (suc (suc (suc (suc zero)))))))) bytes big = absurd (omega arith)
no_tag value (suc (suc (suc (suc (suc (suc (suc (suc (suc zero))))))))) bytes big = absurd (omega arith)
no_tag value (suc (suc (suc (suc (suc (suc (suc (suc (suc (suc zero)))))))))) bytes big = absurd (omega arith)
no_tag value (suc (suc (suc (suc (suc (suc (suc (suc (suc (suc (suc zero))))))))))) bytes big = absurd (omega arith)
no_tag value (suc (suc (suc (suc (suc (suc (suc (suc (suc (suc (suc (suc zero)))))))))))) bytes big = absurd (omega arith)
no_tag value (suc (suc (suc (suc (suc (suc (suc (suc (suc (suc (suc (suc (suc zero))))))))))))) bytes big = absurd (omega arith)
no_tag value (suc (suc (suc (suc (suc (suc (suc (suc (suc (suc (suc (suc (suc (suc n)))))))))))))) bytes big = refl

at_depth : (less tag : ℕ) (rest : List ℕ) → 13 < tag → value_at (suc less) (tag ∷ rest) ≡ Err (UnknownTag, tag ∷ rest)
unfolding value_at
at_depth less tag rest big = no_tag (value_at less) tag rest big

pub unknown_tag : (depth less tag : ℕ) (bytes rest : List ℕ) → bytes ≡ tag ∷ rest → (1 ≤ depth) × (less ≡ depth - 1) → 13 < tag → value_at depth bytes ≡ Err (UnknownTag, bytes)
unknown_tag depth less tag bytes rest is d big =
    let up : depth ≡ suc less = omega arith in
    rw (up, is) (at_depth less tag rest big)
