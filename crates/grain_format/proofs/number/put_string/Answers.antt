use Rattle.std.proofs.Common.{◌∙◌}
use Rattle.std.proofs.lemmas.Str.{is_utf8-from_IsUtf8}
use Rattle.grain_format.proofs.number.put_string.Goals as goal

pub returns-clause-fits : goal.returns-clause-fits
returns-clause-fits c =
    let e = c.as_bytes.ensures.value ∙ c.as_str-text.ensures.value in
    (rw e at c.in_ok-put_bytes.ensures.fits, is_utf8-from_IsUtf8 _ (rw c.as_str-text.ensures.value at c.as_str-text.utf8))
