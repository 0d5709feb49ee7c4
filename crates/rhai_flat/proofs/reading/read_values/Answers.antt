use Rattle.std.proofs.Common.{◌≡◌, arith, length, refl}
use Rattle.std.specs.List.{flat_map}
use Rattle.std.proofs.lemmas.Bool.Decides.{nat_tests}
use Rattle.grain_flat_file.specs.Values.{value_rows, value_texts}
use Rattle.rhai_flat.specs.Forms.{flat_forms}
use Rattle.rhai_flat.proofs.ReadRows.{all_of_run, read_all}
use Rattle.rhai_flat.proofs.reading.read_values.Goals as goal

pub returns-clause-rows : goal.returns-clause-rows
returns-clause-rows c =
    let rows : length c.read_limited.new.reader.rows.now ≡ 0 = grind (arith, nat_tests) in
    let texts : length c.read_limited.new.reader.texts.now ≡ 0 = grind (arith, nat_tests) in
    read_all _ c.read_limited.new.reader (flat_forms c.in_ok-values.values.items) c.in_ok-values.ensures.read refl rows texts

pub returns-clause-tags : goal.returns-clause-tags
returns-clause-tags c =
    let forms = flat_forms c.in_ok-values.values.items in
    let none : length c.read_limited.new.reader.rows.now ≡ 0 = grind (arith, nat_tests) in
    all_of_run _ c.read_limited.new.reader (flat_map value_rows forms) (flat_map value_texts forms) c.in_ok-values.ensures.read none
