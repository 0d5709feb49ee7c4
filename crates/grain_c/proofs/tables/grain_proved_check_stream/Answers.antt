use Rattle.std.proofs.Common.{refl, ap}
use Rattle.grain_c.proofs.Streams.{is_some}
use Rattle.grain_c.proofs.tables.grain_proved_check_stream.Goals as goal

pub returns-in-Err-clause-sound : goal.returns-in-Err-clause-sound
returns-in-Err-clause-sound c = (
  λ e. absurd (is_some c.args.stream.now c.in-Err.error c.stream_flaw-flaw.result.0 ((c.in-Err.ensures.err c.in-Err.error).0 refl) (ap (λ p. p.0) c.stream_flaw-flaw.ensures) e),
  λ h. let no = c.in-Err.ensures.ok.1 h in cc,
)

pub returns-in-Err-clause-kept : goal.returns-in-Err-clause-kept
returns-in-Err-clause-kept c e =
    absurd (is_some c.args.stream.now c.in-Err.error c.stream_flaw-flaw.result.0 ((c.in-Err.ensures.err c.in-Err.error).0 refl) (ap (λ p. p.0) c.stream_flaw-flaw.ensures) e)
