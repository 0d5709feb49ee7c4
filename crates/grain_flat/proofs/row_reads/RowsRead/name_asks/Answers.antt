use Rattle.std.proofs.Common.{rules, ◌≡◌, None, slice_get, sym, ◌∙◌}
use Rattle.grain_rules.specs.Capabilities.{name_caps}
use Rattle.grain_pools.specs.Names.{names_in}
use Rattle.grain_flat.proofs.RowEntries.{nothing_past}
use Rattle.grain_flat.proofs.row_reads.RowsRead.name_asks.Goals as goal

pub returns-in-None : goal.returns-in-None
returns-in-None c =
    let names = names_in c.args.self.now.names.now c.args.self.now.starts.now in
    let none : slice_get names c.args.name ≡ None = search rules in
    c.empty.ensures tt ∙ sym (nothing_past name_caps names c.args.name 0 none)
