use Rattle.std.proofs.Common.{◌+◌, arith, subst, sym}
use Rattle.grain_rules.proofs.OperationUniqueness.{wide}
use Rattle.grain_rules.proofs.Splits.{start_op}
use Rattle.grain_explain.specs.Claimed.{AreMatched, IsAstray, RefusesRows, claimed}
use Rattle.grain_explain.proofs.EdgeMatches.{astray_flaw, closed_by, lack_flaw, on_err, on_ok}
use Rattle.grain_explain.proofs.claim.Claim.check_row.Goals as goal

pub returns-then-row-self-clause-err : goal.returns-then-row-self-clause-err
returns-then-row-self-clause-err g c = (c.args.row.now, c.requires.here, c.if-row-self.true)

pub returns-in_default-clause-err : goal.returns-in_default-clause-err
returns-in_default-clause-err g c = (c.args.row.now, c.requires.here, λ s. (let there = (start_op c.args.self.now.code.now c.args.row.now.at s).1 in c.in_default.ensures.none there.0 there.1))

pub returns-in-Ok-clause-sound : goal.returns-in-Ok-clause-sound
returns-in-Ok-clause-sound g c =
    let claim = claimed g.P.Read.facts g.P.Read.leads c.args.self.now in
    let row = c.args.row.now in
    let op = c.in-Some.op in
    let has = c.in-Ok.ensures.has in
    let low = c.if-row-self.false in
    let width = wide claim.code.bytes row.at c.in-Some-width.width op c.in-Some-width.ensures.found c.in-Some.ensures.found in
    on_ok c.check_edges.result (λ m. record {
      op = op;
      passes = record {
        stands = record { within = c.requires.placed c.args.number row c.requires.here; is = c.in-Some.ensures.found };
        meets = has.meets;
        allowed = has.allowed;
        stays = has.stays;
      };
      closed = closed_by claim row c.in-Ok.effect op c.in-Ok.ensures.does (subst (λ n. AreMatched claim row c.in-Ok.effect (row.at + n)) width m);
      shallow = omega arith;
    }) c.check_edges.ensures.ok

pub returns-in-Ok-clause-err : goal.returns-in-Ok-clause-err
returns-in-Ok-clause-err g c =
    let claim = claimed g.P.Read.facts g.P.Read.leads c.args.self.now in
    let row = c.args.row.now in
    let op = c.in-Some.op in
    let width = wide claim.code.bytes row.at c.in-Some-width.width op c.in-Some-width.ensures.found c.in-Some.ensures.found in
    on_err c.check_edges.result (λ e h. astray_flaw claim row c.in-Ok.effect op c.in-Ok.ensures.does c.args.number e
    (record { is = c.requires.here; stands = c.in-Some.ensures.found })
    (subst (λ n. IsAstray claim c.args.number row c.in-Ok.effect (row.at + n) e) width h)) c.check_edges.ensures.err

pub returns-in-Err-clause-err : goal.returns-in-Err-clause-err
returns-in-Err-clause-err g c =
    subst (RefusesRows (claimed g.P.Read.facts g.P.Read.leads c.args.self.now)) (sym c.of_row.ensures) (lack_flaw (claimed g.P.Read.facts g.P.Read.leads c.args.self.now) c.args.number c.in-Err.lack (record {
      row = c.args.row.now;
      op = c.in-Some.op;
      here = record { is = c.requires.here; stands = c.in-Some.ensures.found };
      lacks = c.in-Err.ensures.lacks;
    }))
