use Rattle.std.proofs.Common.{arith}
use Rattle.grain_explain.specs.Claimed.{IsSound, claimed}
use Rattle.grain_explain.proofs.NumberedRows.{row_inside, row_of, row_there, rows_more}
use Rattle.grain_explain.proofs.claim.Claim.check_rows.Goals as goal

pub loop-number-preserved : goal.loop-number-preserved
loop-number-preserved g c =
    let rows = c.args.self.now.rows.now in
    rows_more (IsSound (claimed g.P.Read.facts g.P.Read.leads c.args.self.now)) rows c.loop-number.number (row_of rows c.loop-number.number) (row_there rows c.loop-number.number c.loop-number-test.true)
    c.in_ok-check_row.ensures.sound c.loop-number.invariant

pub returns-clause-sound : goal.returns-clause-sound
returns-clause-sound g c k r e = let l = row_inside c.args.self.now.rows.now k r e in let m = c.loop-number-test.false in c.loop-number.invariant k r (omega arith) e
