use Rattle.std.proofs.Common.{◌+◌, List, ap, subst}
use Rattle.grain_code.specs.Split.{StandsAt}
use Rattle.grain_machine.proofs.DecodedCode.{decoded_alone}
use Rattle.grain_machine.proofs.decoded.decoded_at.Goals as goal

pub returns-in-Some : goal.returns-in-Some
returns-in-Some c =
    let op = c.in-Some.op in
    let stands = subst (λ (bytes : List _). StandsAt bytes c.args.at op) c.code.ensures c.in-Some.ensures.found in
    decoded_alone c.args.program.now c.args.at op c.taken_by.result (c.args.at + c.width_of.result) stands c.taken_by.ensures (ap (λ n. c.args.at + n) c.width_of.ensures)
