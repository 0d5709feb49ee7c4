use Rattle.std.proofs.Common.{◌≡◌, pos}
use Rattle.std.specs.Prelude.{string_bytes}
use Rattle.grain_flat_file.specs.declared.tags.TheConstants as tags
use Rattle.rhai_flat.proofs.ReadInside.{array_read, entry_more, map_read, pointer_read, value_more}
use Rattle.rhai_flat.proofs.ReadRows.{row_is}
use Rattle.rhai_flat.proofs.reading.+read_value.Goals as goal

pub read_all-values-preserved : goal.read_all-values-preserved
read_all-values-preserved t c =
    value_more c.args.reader.now c.values.reader c.read_value.new.reader c.values.values.items c.push.new.self.items c.in_ok-value.value c.values.counter c.in_ok-push.ensures.items c.values.invariant c.in_ok-value.ensures

pub read_entries-entries-preserved : goal.read_entries-entries-preserved
read_entries-entries-preserved t c =
    entry_more c.args.reader.now c.entries.reader c.name.new.self c.read_value.new.reader c.entries.object.entries.entries c.insert.new.self.entries.entries c.in_ok-key-2.key c.in_ok-value.value c.in_ok-key.key.now c.entries.counter
    c.in_ok-key-2.ensures.ok c.in_ok-comes_last.ensures c.in_ok-insert.ensures c.entries.invariant c.in_ok-key.ensures c.in_ok-value.ensures

pub read_array-returns : goal.read_array-returns
read_array-returns t c =
    let row = row_is c.args.row tags.ARRAY c.args.row.count (pos 0) c.requires c.in_ok-has_fields.ensures.0 c.in_ok-has_fields.ensures.1 in
    array_read c.args.reader.now c.read_all.new.reader c.args.row c.in_ok-new.field-0 c.of.result c.in_ok-items.items.items c.args.row.count row c.in_ok-items.ensures.count c.in_ok-new.ensures.ok (cc c.of.ensures) c.in_ok-items.ensures.read

pub read_map-returns : goal.read_map-returns
read_map-returns t c =
    let row = row_is c.args.row tags.MAP c.args.row.count (pos 0) c.requires c.in_ok-has_fields.ensures.0 c.in_ok-has_fields.ensures.1 in
    map_read c.args.reader.now c.read_entries.new.reader c.args.row c.in_ok-new.field-0 c.in_ok-object.object c.args.row.count row c.in_ok-object.ensures.count c.in_ok-new.ensures.ok c.in_ok-object.ensures.read

pub read_pointer-returns : goal.read_pointer-returns
read_pointer-returns t c =
    let row = row_is c.args.row tags.FN_PTR c.args.row.count (pos 0) c.requires c.in_ok-has_fields.ensures.0 c.in_ok-has_fields.ensures.1 in
    let named : string_bytes c.new.result.name ≡ c.in_ok-name.field-0.now = rw c.new.ensures.0 c.in_ok-name-2.ensures.ok in
    pointer_read c.args.reader.now c.name.new.self c.read_bound.new.reader c.args.row c.in_ok-new.field-0 c.new.result c.in_ok-name.field-0.now c.in_ok-bound.bound.items c.args.row.count row c.in_ok-bound.ensures.count
    c.in_ok-new.ensures.ok named (cc c.new.ensures.1) c.in_ok-name.ensures c.in_ok-bound.ensures.read
