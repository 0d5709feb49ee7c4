use Rattle.std.proofs.Common.{◌∙◌, ap, sym}
use Rattle.std.specs.Int.{from_be_bytes, w16}
use Rattle.std.specs.Prelude.{option_and_then}
use Rattle.std.specs.Option.{option_map}
use Rattle.std.specs.Result.{result_ok}
use Rattle.grain_base.proofs.KnownCaps.{known_caps}
use Rattle.grain_lines.specs.Fields.{if_known}
use Rattle.grain_lines.proofs.FieldLaws.{decoded, known_set}
use Rattle.grain_lines.proofs.fields.caps_of.Goals as goal

pub returns : goal.returns
returns c =
    let bits = c.from_be_bytes.result in
    let made = c.from_bits.ensures in
    let read = decoded _ _ _ _ c.in-Ok.ensures.value in
    known_set c.from_bits.result bits (made.value tt) (λ some. (known_caps bits).0 ((made.known tt).0 some), λ below. (made.known tt).1 ((known_caps bits).1 below))
    ∙ ap if_known c.from_be_bytes.ensures ∙ sym (ap (λ found. option_and_then if_known (option_map (from_be_bytes w16) (result_ok found))) read)
