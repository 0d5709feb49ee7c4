-- What a verification answers, by what came of it.
use Rattle.std.proofs.Common.{◌≡◌, ℕ, ◌-◌, ◌<◌, ◌≤◌, ◌^◌, min, List, Option, length, refl, arith}
use Rattle.grain_rules.specs.declared.error.VerifyError.{VerifyError}
use Rattle.grain_verify.specs.Meter.{HasCounted}
use Rattle.grain_flat.specs.Answers.{Accepts, Refuses, Visits, VisitsWithin, refusal_record}
use Rattle.grain_flat.specs.Flat.{Pooled}
use Rattle.grain_flat.specs.Work.{work_of}
use Rattle.grain_flat.specs.declared.records.CProgram.{CProgram}
use Rattle.grain_flat.specs.declared.records.CReport.{CReport}
use Rattle.grain_flat.proofs.VisitBounds.{accepted_within, refused_within}
use Rattle.grain_c.specs.Answers.{IsAnswer}
use Rattle.grain_c.specs.Judging.{IsClear}
use Rattle.grain_c.specs.declared.status.TheConstants.{ACCEPTED, REFUSED}

-- what a meter that began at nothing shows of what is within the limit
pub shows : (old new n limit result : ℕ) → old ≡ 0 → HasCounted old new n → result ≡ min new (2 ^ 64 - 1) → n ≤ limit → limit < 2 ^ 64 → result ≡ n
shows old new n limit result start counted is within small = omega arith

module _ (caps limit : ℕ) (program : CProgram) (room : ℕ) (old : CReport) (clear : IsClear limit program room) where
  -- no more was visited than the limit
  pub accepted_visits : (found : List ℕ) (n : ℕ) → Accepts caps program.code.now program.chunks.now program.pools found → Visits caps program.code.now program.chunks.now program.pools n → n ≤ limit
  accepted_visits found n accepts visits =
      let most = accepted_within caps program.code.now program.chunks.now program.pools found n clear.pooled accepts visits in
      let within = clear.within in
      omega arith

  pub refused_visits : (n : ℕ) → VisitsWithin program.code.now program.chunks.now n → n ≤ limit
  refused_visits n visits =
      let most = refused_within program.code.now program.chunks.now n visits in
      let within = clear.within in
      omega arith

  not_short : Pooled program.pools × (room < length program.chunks.now) → ⊥
  not_short h = let fits = clear.fits in let less = h.1 in omega arith

  not_limited : Pooled program.pools × (length program.chunks.now ≤ room) × (limit < work_of program.code.now program.chunks.now) → ⊥
  not_limited h = let within = clear.within in let more = h.2 in omega arith

  pub accepted : (found : List ℕ) (n : ℕ) → Accepts caps program.code.now program.chunks.now program.pools found → Visits caps program.code.now program.chunks.now program.pools n
      → IsAnswer caps limit program room old (record old { visited = n }) ACCEPTED
  accepted found n accepts visits = record {
    refused = λ e. absurd (omega (arith, e));
    visited = λ e. visits;
    visited_within = λ e. absurd (omega (arith, e));
    bounded = λ e. accepted_visits found n accepts visits;
    not_flat = (λ e. absurd (omega (arith, e)), λ none. absurd (none clear.pooled));
    short = (λ e. absurd (omega (arith, e)), λ h. absurd (not_short h));
    limited = (λ e. absurd (omega (arith, e)), λ h. absurd (not_limited h));
    memory = λ e. absurd (omega (arith, e));
    answers = omega arith;
    refusal_kept = λ e. refl;
    visited_kept = λ e f. absurd (e refl);
  }

  pub refused : (place : Option ℕ) (e : VerifyError) (n : ℕ) → Refuses caps program.code.now program.chunks.now program.pools place e → VisitsWithin program.code.now program.chunks.now n
      → IsAnswer caps limit program room old (record { refusal = refusal_record place e; visited = n }) REFUSED
  refused place error n refuses visits = record {
    refused = λ e. (place, error, refl, refuses);
    visited = λ e. absurd (omega (arith, e));
    visited_within = λ e. visits;
    bounded = λ e. refused_visits n visits;
    not_flat = (λ e. absurd (omega (arith, e)), λ none. absurd (none clear.pooled));
    short = (λ e. absurd (omega (arith, e)), λ h. absurd (not_short h));
    limited = (λ e. absurd (omega (arith, e)), λ h. absurd (not_limited h));
    memory = λ e. absurd (omega (arith, e));
    answers = omega arith;
    refusal_kept = λ e. absurd (e refl);
    visited_kept = λ e f. absurd (f refl);
  }
