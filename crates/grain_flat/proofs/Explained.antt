-- One chunk that is explained, beside rows.
use Rattle.std.proofs.Common.{◌≡◌, ℕ, List, [], ◌∷◌, ◌++◌, length, ap, sym, subst, arith}
use Rattle.std.specs.List.{AllZip}
use Rattle.std.proofs.lemmas.List.{length-append}
use Rattle.grain_rules.specs.Code.{Bytecode}
use Rattle.grain_rules.specs.Accepted.{AreIndexed}
use Rattle.grain_explain.specs.Explaining.{IsCause, IsExact, IsExplained}
use Rattle.grain_code.specs.Span.{Span}
use Rattle.grain_explain.specs.declared.refusal.ExplainError.{ExplainError}
use Rattle.grain_explain.specs.declared.refusal.ExplainedChunk.{ExplainedChunk}
use Rattle.grain_flat.specs.Explaining.{Beside, IsFlatCause}
use Rattle.grain_flat.specs.Flat.{code_with}
use Rattle.grain_flat.specs.declared.records.CPools.{CPools}

-- what is related to one thing alone is the last
one_of : {A B : Type 0} (R : A → B → Type 0) (a : A) (items rest : List B) (x : B) → AllZip R (a ∷ []) items → items ≡ rest ++ x ∷ [] → R a x
one_of R a [] rest x h e = absurd h
one_of R a (y ∷ []) [] x h e = let same : y ≡ x = cc in subst (R a) same h.0
one_of {A} {B} R a (y ∷ []) (r ∷ rs) x h e = absurd (let l = ap (λ (xs : List B). length xs) e in omega (arith, length-append rs (x ∷ [])))
one_of R a (y ∷ z ∷ zs) rest x h e = absurd h.1

pub one_explained : (code beside : Bytecode) (s chunk : Span) (items rest : List ExplainedChunk) (x : ExplainedChunk) → AllZip (IsExplained code) (s ∷ []) items
    → AllZip (IsExact code) (s ∷ []) items → items ≡ rest ++ x ∷ [] → code ≡ beside → s ≡ chunk → IsExplained beside chunk x × IsExact beside chunk x
one_explained code beside s chunk items rest x explained exact last same here =
    let found : IsExplained code s x × IsExact code s x = (one_of (IsExplained code) s items rest x explained last, one_of (IsExact code) s items rest x exact last) in
    let within : IsExplained beside s x × IsExact beside s x = subst (λ (b : Bytecode). IsExplained b s x × IsExact b s x) same found in
    subst (λ (c : Span). IsExplained beside c x × IsExact beside c x) here within

-- why nothing is explained, of the flat form
pub flat_cause : (caps : ℕ) (bytes : List ℕ) (p : CPools) (beside : Beside p) (code : Bytecode) (e : ExplainError) → code ≡ code_with caps bytes p beside.chains beside.switches → IsCause code e → IsFlatCause caps bytes p e
flat_cause caps bytes p beside code e is cause = λ named. (beside, λ indexed. cause.bad named (subst (λ (b : Bytecode). AreIndexed b.setting b.bytes) (sym is) indexed))
