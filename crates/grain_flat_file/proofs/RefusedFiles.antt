-- Why a file isn't tightened whose program is refused.
use Rattle.std.proofs.Common.{◌≡◌, ◌≢◌, ℕ, List, sym, subst, inl, inr}
use Rattle.grain.specs.Program.{Program, input_of}
use Rattle.grain.proofs.RefusalCauses.{flaw_at}
use Rattle.grain_file.specs.Loading.{IsFileOf}
use Rattle.grain_file.specs.declared.file.Limits.{Limits}
use Rattle.grain_file.specs.declared.file.ReadError.TheVariants as read_error
use Rattle.grain_flat_file.specs.Changed.{IsTightenCause}
use Rattle.grain_flat_file.specs.declared.changed.TightenStop.{TightenStop}
use Rattle.grain_flat_file.specs.declared.changed.TightenStop.TheVariants as stops
use Rattle.grain_rules.proofs.Whole.{memory_no_flaw}
use Rattle.grain_rules.specs.declared.error.VerifyError.TheVariants.{OutOfMemory}
use Rattle.grain_verify.specs.Meter.{HasCounted, IsWithinAll}
use Rattle.grain_verify.specs.Refusals.{IsLocatedRefusal}
use Rattle.grain_verify.specs.declared.refusal.Refusal.{Refusal}

module _ (limits : Limits) (bytes : List ℕ) (limit before after : ℕ) (p : Program) (r : Refusal) (stop : TightenStop) where
  pub refused_cause : IsFileOf limits bytes p → IsLocatedRefusal (input_of p) r → (n : ℕ) × IsWithinAll (input_of p) n × HasCounted before after n
      → (r.error ≡ OutOfMemory → stop ≡ stops.Read read_error.OutOfMemory) → (r.error ≢ OutOfMemory → stop ≡ stops.Refused r) → IsTightenCause limits bytes limit before after stop
  refused_cause file (inl wants) within memory refused = subst (IsTightenCause limits bytes limit before after) (sym (memory wants.error)) tt
  refused_cause file (inr flaw) within memory refused =
      let known : r.error ≢ OutOfMemory = λ e. memory_no_flaw (input_of p) r.error e (flaw_at (input_of p) r.chunk r.error flaw) in
      subst (IsTightenCause limits bytes limit before after) (sym (refused known)) (record { read = p; file = file; flaw = flaw; within = within })
