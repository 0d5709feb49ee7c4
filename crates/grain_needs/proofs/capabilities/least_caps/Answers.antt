use Rattle.std.proofs.Common.{◌≡◌, ℕ, bit_or, refl, subst, sym}
use Rattle.grain_base.specs.CapBits.{FUNCTION}
use Rattle.grain_rules.specs.Capabilities.{Allows}
use Rattle.grain_rules.specs.Setting.{with_caps}
use Rattle.grain_needs.proofs.Accumulated.{constants_all, instructions_all}
use Rattle.grain_needs.proofs.CapabilityBits.{allows_both, more_allows, others_allow}
use Rattle.grain_needs.proofs.capabilities.least_caps.Goals as goal

pub returns : goal.returns
returns g c = λ caps leads chunks.
    let s = with_caps caps (g.P.Read.facts c.args.pools.now) in
    let a = c.caps_of_constants.result.0 in
    let b = c.caps_of_functions.result.0 in
    let d = c.caps_of_code.result.0 in
    let first : c.union.result.0 ≡ bit_or a b = c.union.ensures tt in
    let second : c.union-2.result.0 ≡ bit_or c.union.result.0 d = c.union-2.ensures tt in
    let whole = c.union-2.result.0 in
    let from_first : (n : ℕ) → Allows c.union.result.0 n → Allows whole n = λ n h. subst (λ (x : ℕ). Allows x n) (sym second) (more_allows c.union.result.0 d n h) in
    let from_a : (n : ℕ) → Allows a n → Allows whole n = λ n h. from_first n (subst (λ (x : ℕ). Allows x n) (sym first) (more_allows a b n h)) in
    let from_b : (n : ℕ) → Allows b n → Allows whole n = λ n h. from_first n (subst (λ (x : ℕ). Allows x n) (sym first) (others_allow a b n h)) in
    let from_d : (n : ℕ) → Allows d n → Allows whole n = λ n h. subst (λ (x : ℕ). Allows x n) (sym second) (others_allow c.union.result.0 d n h) in
    record {
      suffice = record {
        constants = constants_all c.args.consts.now a whole from_a c.caps_of_constants.ensures.suffice;
        functions = λ some. from_b FUNCTION (c.caps_of_functions.ensures.suffice some);
        instructions = λ items are. instructions_all s items d whole from_d (c.caps_of_code.ensures.suffice s refl items are);
      };
      least = λ others enough.
          subst (Allows others) (sym second) (allows_both others c.union.result.0 d
          (subst (Allows others) (sym first) (allows_both others a b (c.caps_of_constants.ensures.least others enough.constants) (c.caps_of_functions.ensures.least others enough.functions)))
          (c.caps_of_code.ensures.least s refl others enough.instructions));
    }
