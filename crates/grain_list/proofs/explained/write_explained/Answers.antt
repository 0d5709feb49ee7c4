use Rattle.std.proofs.Common.{◌++◌, ◌∙◌, ap, string_bytes}
use Rattle.grain_lines.specs.Verdict.{accepted_text}
use Rattle.grain_list.proofs.Explaining.{adds_numbers, adds_refusal}
use Rattle.grain_list.proofs.explained.write_explained.Goals as goal

pub returns-in_ok-write_accepted-in-Ok : goal.returns-in_ok-write_accepted-in-Ok
returns-in_ok-write_accepted-in-Ok c question h =
    adds_numbers question c.args.explained.now c.in-Ok.numbers _ _ h c.in-Ok.is
    (c.in_ok-write_accepted-in-Ok.ensures ∙ ap (λ xs. string_bytes c.args.text.now ++ accepted_text xs) c.deref.ensures.value)

pub returns-in_ok-write-in_default : goal.returns-in_ok-write-in_default
returns-in_ok-write-in_default c question h =
    adds_refusal question c.args.explained.now c.in-Err.refusal _ _ h c.in-Err.is c.in_default.not-OutOfMemory c.in_ok-write-in_default.ensures.bytes
