use Rattle.std.proofs.Common.{rules, ◌≡◌, [], None, slice_get, ap, map, sym, ◌∙◌}
use Rattle.grain_pools.specs.Dispatch.{first_past}
use Rattle.grain_flat.specs.RowFacts.{facts_by_rows, parts}
use Rattle.grain_flat.specs.declared.records.CCase.{CCase}
use Rattle.grain_flat.proofs.RowEntries.{cases_in, nothing_past, mapped_at}
use Rattle.grain_flat.proofs.RowParts.{part_past}
use Rattle.grain_flat.proofs.row_reads.RowsRead.bad_constant.Goals as goal

pub returns-in_err-row : goal.returns-in_err-row
returns-in_err-row c =
    let p = c.self.inside.pools in
    let none : slice_get p.switches.now c.args.switch ≡ None = search rules in
    let past = nothing_past (map (λ (c : CCase). c.constant)) (parts cases_in p.switches.now p.cases.now) c.args.switch [] (part_past cases_in p.switches.now p.cases.now c.args.switch none) in
    rw (c.from_residual.ensures, ← c.self.view_is) (ap (first_past (facts_by_rows p).consts) (sym past))

pub returns : goal.returns
returns c =
    let p = c.self.inside.pools in
    let own = rw (← c.self.view_is) at c.cases_of.ensures in
    let refusal_record = mapped_at (map (λ (c : CCase). c.constant)) (parts cases_in p.switches.now p.cases.now) c.args.switch c.cases_of.result.now [] own in
    c.bad_case.ensures ∙ rw (← c.self.view_is) (ap (first_past (facts_by_rows p).consts) (sym refusal_record))
