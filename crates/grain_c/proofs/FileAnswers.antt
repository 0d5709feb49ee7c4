-- What calls on files answer follows from what their parts do.
use Rattle.std.proofs.Common.{◌≡◌, ◌⊎◌, ◌∙◌, ◌<◌, ℕ, List, arith, refl, sym, ap, subst, inl, inr}
use Rattle.std.specs.Prelude.{Some}
use Rattle.grain.specs.Program.{Program, input_of}
use Rattle.grain_c.specs.Files.{IsFileAnswer, IsReadAnswer, IsStopAnswer}
use Rattle.grain_c.specs.declared.status.TheConstants.{ACCEPTED, REFUSED, OUT_OF_MEMORY, MALFORMED, TOO_LONG, BAD_LIMIT}
use Rattle.grain_file.specs.Loading.{IsFileOf, IsLoadable}
use Rattle.grain_file.specs.declared.file.Limits.{Limits}
use Rattle.grain_file.specs.declared.file.ReadError.TheVariants as errors
use Rattle.grain_file.specs.declared.file.TheConstants.{MAX_DEPTH}
use Rattle.grain_flat.specs.Answers.{Accepts, Refuses}
use Rattle.grain_flat.specs.declared.records.CReport.{CReport}
use Rattle.grain_flat_file.proofs.FlatForm.{is_accepted, is_refused}
use Rattle.grain_flat_file.specs.Contents.{AreContents}
use Rattle.grain_flat_file.specs.Loading.{IsFlatReadCause}
use Rattle.grain_flat_file.specs.declared.loading.FileStop.{FileStop}
use Rattle.grain_flat_file.specs.declared.loading.FileStop.TheVariants as stops
use Rattle.grain_flat_file.specs.declared.records.CContents.{CContents}
use Rattle.grain_flat_file.specs.declared.records.CReadError.{CReadError}
use Rattle.grain_rules.specs.Accepted.{IsAccepted}
use Rattle.grain_rules.specs.Capabilities.{Allows}

pub answers_read : (limits : Limits) (bytes : List ℕ) (e : CReadError) → IsReadAnswer limits bytes e e ACCEPTED
answers_read limits bytes e = record { malformed = λ h. cc; too_long = λ h. cc; bad_limit = λ h. cc; only = λ p f. ((λ h. cc), (λ h. cc)); answers = inl refl; error_kept = λ h. refl }

pub answers_memory : (limits : Limits) (bytes : List ℕ) (e : CReadError) → IsReadAnswer limits bytes e e OUT_OF_MEMORY
answers_memory limits bytes e = record { malformed = λ h. cc; too_long = λ h. cc; bad_limit = λ h. cc; only = λ p f. ((λ h. cc), (λ h. cc)); answers = inr (inl refl); error_kept = λ h. refl }

answers_long : (limits : Limits) (bytes : List ℕ) (e : CReadError) → (p : Program) × IsFileOf limits bytes p → IsReadAnswer limits bytes e e TOO_LONG
answers_long limits bytes e cause = record { malformed = λ h. cc; too_long = λ h. cause; bad_limit = λ h. cc; only = λ p f. ((λ h. cc), (λ h. cc)); answers = inr (inr (inr (inl refl))); error_kept = λ h. refl }

answers_limit : (limits : Limits) (bytes : List ℕ) (e : CReadError) → MAX_DEPTH < limits.depth → IsReadAnswer limits bytes e e BAD_LIMIT
answers_limit limits bytes e above = record { malformed = λ h. cc; too_long = λ h. cc; bad_limit = λ h. above; only = λ p f. absurd (let shallow = f.shallow in omega arith); answers = inr (inr (inr (inr refl))); error_kept = λ h. refl }

-- whatever stopped reading, the answer names it
pub answers_stop : (limits : Limits) (bytes : List ℕ) (stop : FileStop) (old new : CReadError) (status : ℕ) → IsFlatReadCause limits bytes stop
    → ((p : Program) → IsFileOf limits bytes p → (stop ≡ stops.Read errors.OutOfMemory) ⊎ (stop ≡ stops.TooLong)) → IsStopAnswer stop old new status → IsReadAnswer limits bytes old new status
answers_stop limits bytes stops.TooLong old new status cause only h = rw (h.0, h.1) (answers_long limits bytes old cause)
answers_stop limits bytes (stops.Read (errors.DepthLimit depth)) old new status cause only h = rw (h.0, h.1) (answers_limit limits bytes old cause.1)
answers_stop limits bytes (stops.Read errors.OutOfMemory) old new status cause only h = rw (h.0, h.1) (answers_memory limits bytes old)
answers_stop limits bytes (stops.Read (errors.TooLarge size limit)) old new status cause only h = record {
  malformed = λ e. (errors.TooLarge size limit, cause, ap Some (sym h.1));
  too_long = λ e. absurd (let bad : MALFORMED ≡ TOO_LONG = sym h.0 ∙ e in cc);
  bad_limit = λ e. absurd (let bad : MALFORMED ≡ BAD_LIMIT = sym h.0 ∙ e in cc);
  only = λ p f. absurd (elim (only p f) [ inl a ↦ cc | inr a ↦ cc ]);
  answers = inr (inr (inl h.0));
  error_kept = λ e. absurd (e h.0);
}
answers_stop limits bytes (stops.Read (errors.Malformed at part fault)) old new status cause only h = record {
  malformed = λ e. (errors.Malformed at part fault, cause, ap Some (sym h.1));
  too_long = λ e. absurd (let bad : MALFORMED ≡ TOO_LONG = sym h.0 ∙ e in cc);
  bad_limit = λ e. absurd (let bad : MALFORMED ≡ BAD_LIMIT = sym h.0 ∙ e in cc);
  only = λ p f. absurd (elim (only p f) [ inl a ↦ cc | inr a ↦ cc ]);
  answers = inr (inr (inl h.0));
  error_kept = λ e. absurd (e h.0);
}

module _ (contents : CContents) (host limit : ℕ) (depths written : List ℕ) (old new : CReport) (status : ℕ) where
  pub headline : IsFileAnswer contents host limit depths written old new status → status ≡ ACCEPTED → (p : Program) → AreContents p contents → Allows host p.caps.0 × IsAccepted (input_of p)
  headline (inl lacks) is p a = absurd (let bad : REFUSED ≡ ACCEPTED = sym lacks.status_is ∙ is in cc)
  headline (inr judged) is p a =
      let found = judged.writes.accepted is in
      let accepts : Accepts p.caps.0 contents.program.code.now contents.program.chunks.now contents.program.pools found.0 =
      subst (λ (caps : ℕ). Accepts caps contents.program.code.now contents.program.chunks.now contents.program.pools found.0) a.caps_are found.3 in
      (subst (λ (caps : ℕ). Allows host caps) a.caps_are judged.lacks_none, is_accepted p contents.program a.program found.0 accepts)

  pub loadable : IsFileAnswer contents host limit depths written old new status → status ≡ REFUSED → (p : Program) → AreContents p contents → IsLoadable host p → ⊥
  loadable (inl lacks) is p a l = lacks.lacks (subst (λ (caps : ℕ). Allows host caps) (sym a.caps_are) l.allowed)
  loadable (inr judged) is p a l =
      let named = judged.answer.refused is in
      let refuses : Refuses p.caps.0 contents.program.code.now contents.program.chunks.now contents.program.pools named.0 named.1 =
      subst (λ (caps : ℕ). Refuses caps contents.program.code.now contents.program.chunks.now contents.program.pools named.0 named.1) a.caps_are named.3 in
      (is_refused p contents.program a.program named.0 named.1 refuses).0 l.accepted
