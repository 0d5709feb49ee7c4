use Rattle.std.proofs.Common.{◌≡◌, Some, ap, subst, ◌∙◌}
use Rattle.grain_rules.specs.Counts.{nothing}
use Rattle.grain_explain.specs.RowView.{typing_of}
use Rattle.grain_explain.proofs.Certified.{certified}
use Rattle.grain_explain.proofs.EdgeMatches.{on_ok}
use Rattle.grain_explain.specs.Claimed.{claimed}
use Rattle.grain_explain.proofs.claim.Claim.check_from.Goals as goal

pub has_row-requires-clause-listed : goal.has_row-requires-clause-listed
has_row-requires-clause-listed g c = c.nothing.ensures.listed c.args.self.now.bases.now

pub returns-clause-yes : goal.returns-clause-yes
returns-clause-yes g c =
    let claim = claimed g.P.Read.facts g.P.Read.leads c.args.self.now in
    let rows = claim.rows in
    let bases = claim.bases in
    let entry : typing_of bases rows claim.chunk.entry ≡ Some nothing =
    subst (λ n. typing_of bases rows n ≡ Some nothing) c.entry.ensures (c.has_row.ensures.0 c.if-not-has_row.false ∙ ap Some (c.nothing.ensures.counts bases)) in
    on_ok c.check_rows.result
    (λ sound. certified claim c.requires.ordered c.requires.inside c.in_ok-check_places.ensures.ends (record { linked = c.requires.linked; listed = c.requires.listed; ascending = c.in_ok-check_ascending.ensures.ok }) c.in_ok-check_places.ensures.placed entry sound)
    c.check_rows.ensures.sound
