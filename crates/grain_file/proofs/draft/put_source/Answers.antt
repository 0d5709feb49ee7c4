use Rattle.std.proofs.lemmas.Str.{is_utf8-from_IsUtf8}
use Rattle.grain_file.proofs.draft.put_source.Goals as goal

pub returns-in_ok-put_bytes-in-Some-clause-fits : goal.returns-in_ok-put_bytes-in-Some-clause-fits
returns-in_ok-put_bytes-in-Some-clause-fits c =
    rw c.in-Some.is (rw c.as_bytes.ensures.value at c.in_ok-put_bytes-in-Some.ensures.fits, is_utf8-from_IsUtf8 _ (rw c.as_bytes.ensures.value at c.as_bytes.ensures.utf8))
