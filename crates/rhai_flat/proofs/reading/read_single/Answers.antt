use Rattle.rhai_flat.proofs.ReadInside.{float_read}
use Rattle.rhai_flat.proofs.reading.read_single.Goals as goal

pub returns-in_ok-has_fields-in-15 : goal.returns-in_ok-has_fields-in-15
returns-in_ok-has_fields-in-15 c =
    float_read c.args.reader.now c.args.row c.number.result c.in-15.is c.in_ok-has_fields-in-15.ensures.0 (cc (c.number.ensures, c.float.ensures))
