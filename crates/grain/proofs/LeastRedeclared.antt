-- The least capabilities stay so if chunks declare other numbers.
use Rattle.std.proofs.Common.{◌≡◌, ◌≢◌, List, [], ◌∷◌, length, map, suc, refl, sym, ap, subst, arith}
use Rattle.grain_code.specs.declared.function.Function.{Function}
use Rattle.grain_needs.specs.Capabilities.{AreLeast}
use Rattle.grain_needs.proofs.LeastCapabilities.{least_alike}
use Rattle.grain_rules.specs.Facts.{facts_with}
use Rattle.grain.specs.Program.{Program, input_of}
use Rattle.grain.specs.Tightened.{undeclared, undeclared_function}

some_too : (fs gs : List Function) → map undeclared_function fs ≡ map undeclared_function gs → fs ≢ [] → gs ≢ []
some_too [] gs e some = λ none. some refl
some_too (f ∷ fs) [] e some = absurd (let l : suc (length (map undeclared_function fs)) ≡ 0 = ap (λ (xs : List Function). length xs) e in omega arith)
some_too (f ∷ fs) (g ∷ gs) e some = λ none. let l : suc (length gs) ≡ 0 = ap (λ (xs : List Function). length xs) none in omega arith

pub least_again : (p q : Program) → undeclared q ≡ undeclared p → AreLeast (input_of p) p.caps.0 → AreLeast (input_of q) q.caps.0
least_again p q e h =
    let caps : p.caps.0 ≡ q.caps.0 = sym (ap (λ (r : Program). r.caps.0) e) in
    subst (AreLeast (input_of q)) caps (least_alike (input_of p) (input_of q) p.caps.0
    (sym (ap (λ (r : Program). r.code) e))
    (sym (ap (λ (r : Program). facts_with (length r.consts) r.names (length r.tokens) (length r.assign_ops) r.residuals r.chains r.switches) e))
    (sym (ap (λ (r : Program). r.consts) e))
    (some_too q.functions p.functions (ap (λ (r : Program). r.functions) e))
    (some_too p.functions q.functions (sym (ap (λ (r : Program). r.functions) e)))
    h)
