use Rattle.std.proofs.Common.{rules, ◌≡◌, None, sym}
use Rattle.grain_pools.specs.Names.{first_flaw}
use Rattle.grain_pools.proofs.Tables.{table_of}
use Rattle.grain_pools.proofs.strings.Strings.borrowed.Goals as goal

pub invariant_of-result : goal.invariant_of-result
invariant_of-result c =
    let copied : c.in_ok-blob.blob.items ≡ c.args.blob.now = search rules in
    let fine : first_flaw c.args.blob.now c.args.starts.items ≡ None = search rules in
    rw copied (table_of c.args.blob.now c.args.starts.items fine)

pub returns-clause-whole : goal.returns-clause-whole
returns-clause-whole c =
    let copied : c.in_ok-blob.blob.items ≡ c.args.blob.now = search rules in
    let fine : first_flaw c.args.blob.now c.args.starts.items ≡ None = search rules in
    let table = table_of c.args.blob.now c.args.starts.items fine in
    rw copied (sym table.blob_is, sym table.starts_are)
