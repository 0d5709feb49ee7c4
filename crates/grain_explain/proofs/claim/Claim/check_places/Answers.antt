use Rattle.std.proofs.Common.{arith, subst}
use Rattle.grain_rules.specs.Code.{coded}
use Rattle.grain_rules.specs.Layout.{IsBoundary}
use Rattle.grain_rules.specs.Typing.{IsInChunk}
use Rattle.grain_explain.specs.Claimed.{claimed}
use Rattle.grain_explain.specs.declared.row.Row.{Row}
use Rattle.grain_explain.proofs.Boundaries.{start_there}
use Rattle.grain_explain.proofs.NumberedRows.{row_inside, row_of, row_there, rows_more}
use Rattle.grain_explain.proofs.claim.Claim.check_places.Goals as goal

pub loop-row-preserved : goal.loop-row-preserved
loop-row-preserved g c =
    let rows = c.args.self.now.rows.now in
    let here = row_of rows c.loop-row.row in
    let is = row_there rows c.loop-row.row c.loop-row-test.true in
    let same = c.if-boundary-here.false in
    let low = c.if-here-entry.false in
    let entry = c.entry.ensures in
    let high = c.if-here-end.false in
    let end = c.end.ensures in
    let inside = c.requires.inside in
    let at_boundary = subst (IsBoundary c.args.self.now.code.now) same c.boundary_from-boundary.ensures.boundary in
    record {
      boundary = c.boundary_from-boundary.ensures.boundary;
      below = λ k r l e above. (let h = c.requires.ascending c.loop-row.row k here r (omega arith) is e in omega arith);
      before_end = λ b. omega arith;
      placed = rows_more (λ (r : Row). IsInChunk (coded (claimed g.P.Read.facts g.P.Read.leads c.args.self.now).code) c.args.self.now.chunk.now r.at) rows c.loop-row.row here is
          (record { entry = omega arith; end = omega arith; place = start_there c.args.self.now.code.now here.at at_boundary (omega arith) })
          c.loop-row.invariant.placed;
    }

pub returns-clause-placed : goal.returns-clause-placed
returns-clause-placed g c k r e = let l = row_inside c.args.self.now.rows.now k r e in let m = c.loop-row-test.false in c.loop-row.invariant.placed k r (omega arith) e
