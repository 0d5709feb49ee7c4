use Rattle.std.proofs.Common.{◌++◌, ◌∙◌, ap, string_bytes}
use Rattle.grain_lines.specs.Verdict.{accepted_text, program}
use Rattle.grain_lines.proofs.VerdictLaws.{adds_accepted, adds_refused}
use Rattle.grain_lines.proofs.verdict.write_judged.Goals as goal

pub returns-in_ok-write_accepted-in-Ok : goal.returns-in_ok-write_accepted-in-Ok
returns-in_ok-write_accepted-in-Ok c =
    adds_accepted (program c.args.caps.0 c.args.code.now c.args.chunks.now) _ _ _ c.in-Ok.ensures.accepted
    (c.in_ok-write_accepted-in-Ok.ensures ∙ ap (λ xs. string_bytes c.args.text.now ++ accepted_text xs) c.deref.ensures.value)

pub returns-in_ok-write-in_default : goal.returns-in_ok-write-in_default
returns-in_ok-write-in_default c =
    adds_refused (program c.args.caps.0 c.args.code.now c.args.chunks.now) _ _ _ (c.in-Err.ensures.refused c.in_default.not-OutOfMemory)
    c.in_ok-write-in_default.ensures.bytes
