use Rattle.std.proofs.Common.{ℕ, List, subst}
use Rattle.std.specs.List.{All}
use Rattle.grain_explain.specs.Claimed.{HasRow, MissesOne, claimed}
use Rattle.grain_explain.proofs.EdgeMatches.{on_err, on_ok}
use Rattle.grain_explain.proofs.claim.Claim.check_targets.Goals as goal

pub returns-in-Switches-clause-ok : goal.returns-in-Switches-clause-ok
returns-in-Switches-clause-ok g c =
    let claim = claimed g.P.Read.facts g.P.Read.leads c.args.self.now in
    on_ok c.check_each.result (λ h. rw c.in-Switches.is (subst (All (HasRow claim c.args.edge.now)) c.targets.ensures h)) c.check_each.ensures.ok

pub returns-in-Switches-clause-err : goal.returns-in-Switches-clause-err
returns-in-Switches-clause-err g c =
    let claim = claimed g.P.Read.facts g.P.Read.leads c.args.self.now in
    on_err c.check_each.result (λ e h. rw c.in-Switches.is (subst (λ (ts : List ℕ). MissesOne claim c.args.edge.now c.args.number ts e) c.targets.ensures h)) c.check_each.ensures.err
