use Rattle.std.proofs.Common.{rules, ◌≡◌, None, slice_get, sym}
use Rattle.grain_rules.specs.Facts.{ChainFacts}
use Rattle.grain_flat.specs.RowFacts.{chains_by_rows}
use Rattle.grain_flat.proofs.RowEntries.{nothing_past}
use Rattle.grain_flat.proofs.row_reads.RowsRead.chain_takes.Goals as goal

pub returns-in-None : goal.returns-in-None
returns-in-None c =
    let chains = chains_by_rows c.args.self.now.chains.now c.args.self.now.steps.now in
    let none : slice_get chains c.args.chain ≡ None = search rules in
    sym (nothing_past (λ (f : ChainFacts). f.takes) chains c.args.chain 0 none)
