use Rattle.std.proofs.Common.{sym, ◌∙◌, ◌∷◌, [], ◌<◌, rules}
use Rattle.grain_flat.proofs.HexDigits.{four_are}
use Rattle.grain_flat.proofs.line.hex_digits.Goals as goal

pub returns : goal.returns
returns c =
    let fits : c.args.bits < 65536 = search rules in
    let first = c.hex_digit.ensures in
    let second = c.hex_digit-2.ensures in
    let third = c.hex_digit-3.ensures in
    let last = c.hex_digit-4.ensures in
    (λ i. first i ∷ second i ∷ third i ∷ last i ∷ []) ∙ sym (four_are c.args.bits fits)
