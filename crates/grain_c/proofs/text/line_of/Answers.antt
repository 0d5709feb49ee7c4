use Rattle.std.proofs.Common.{List, ℕ, None, Option, Some, inl, inr}
use Rattle.std.specs.Prelude.{IfNone}
use Rattle.grain_flat.specs.Lacks.{IsRefusalText, TellsLack}
use Rattle.grain_flat.specs.Answers.{TellsRefusal}
use Rattle.grain_flat.specs.declared.records.CRefusal.{CRefusal}
use Rattle.grain_rules.specs.declared.error.VerifyError.{VerifyError}
use Rattle.grain_c.proofs.text.line_of.Goals as goal

-- a record that is neither has no text
no_text : {A : Type 0} (found : Option A) (refusal : CRefusal) → ((missing : ℕ) → TellsLack refusal missing → ⊥) → IfNone found ((e : VerifyError) → TellsRefusal refusal e → ⊥)
    → IfNone found ((line : List ℕ) → IsRefusalText refusal line → ⊥)
no_text None refusal lacks told = λ line text. elim text as (λ _. ⊥) [ inl t ↦ told t.0 t.1 | inr l ↦ lacks l.0 l.1 ]
no_text (Some line) refusal lacks told = tt

pub returns-in-None-clause-none : goal.returns-in-None-clause-none
returns-in-None-clause-none c = no_text c.encoded_text.result c.args.refusal.now c.in-None.ensures.none c.encoded_text.ensures.none
