use Rattle.std.proofs.Common.{◌≡◌, length}
use Rattle.rhai_flat.specs.Forms.{flat_forms}
use Rattle.rhai_flat.specs.Rows.{AreFormsRead}
use Rattle.rhai_flat.proofs.reading.read_limited.Given as goal

abbrev pub invariant-values : goal.invariant-values
invariant-values l = (length l.values.items ≡ l.counter) × AreFormsRead l.initial.reader l.reader (flat_forms l.values.items)
