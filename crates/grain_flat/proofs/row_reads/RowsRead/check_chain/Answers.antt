use Rattle.std.proofs.Common.{rules, ◌≡◌, List, [], None, slice_get, ap, map, sym}
use Rattle.grain_rules.specs.Facts.{ChainFacts, Mention}
use Rattle.grain_rules.specs.FirstOut.{alone, first_out}
use Rattle.grain_rules.specs.Indices.{test_of}
use Rattle.grain_flat.specs.RowFacts.{chains_by_rows, facts_by_rows}
use Rattle.grain_flat.proofs.RowEntries.{nothing_past}
use Rattle.grain_flat.proofs.row_reads.RowsRead.check_chain.Goals as goal

pub returns-in-None : goal.returns-in-None
returns-in-None c =
    let p = c.args.self.now in
    let chains = chains_by_rows p.chains.now p.steps.now in
    let none : slice_get chains c.args.chain ≡ None = search rules in
    ap (λ (ms : List Mention). first_out (map (test_of (alone (facts_by_rows p))) ms)) (sym (nothing_past (λ (f : ChainFacts). f.mentions) chains c.args.chain [] none))
