use Rattle.std.proofs.Common.{◌≡◌, ◌∷◌, [], arith, length, refl}
use Rattle.std.proofs.lemmas.Bool.Decides.{nat_tests}
use Rattle.grain_flat_file.specs.Values.{value_rows, value_texts}
use Rattle.rhai_flat.specs.Forms.{flat_form}
use Rattle.rhai_flat.proofs.ReadRows.{all_of_run, none_read, read_all, read_more}
use Rattle.rhai_flat.proofs.reading.read_one.Goals as goal

pub returns-clause-rows : goal.returns-clause-rows
returns-clause-rows c =
    let form = flat_form c.in_ok-value.value in
    let rows : length c.read_within.new.reader.rows.now ≡ 0 = grind (arith, nat_tests) in
    let texts : length c.read_within.new.reader.texts.now ≡ 0 = grind (arith, nat_tests) in
    read_all _ c.read_within.new.reader (form ∷ []) (read_more value_rows value_texts _ _ c.read_within.new.reader [] (form ∷ []) form refl (none_read _) c.in_ok-value.ensures) refl rows texts

pub returns-clause-tags : goal.returns-clause-tags
returns-clause-tags c =
    let form = flat_form c.in_ok-value.value in
    let none : length c.read_within.new.reader.rows.now ≡ 0 = grind (arith, nat_tests) in
    all_of_run _ c.read_within.new.reader (value_rows form) (value_texts form) c.in_ok-value.ensures none
