use Rattle.std.proofs.Common.{Some, ap, inl, inr, refl, sym, ◌∙◌}
use Rattle.std.proofs.lemmas.Result.{err_from_is_err_and}
use Rattle.grain_explain.specs.Claimed.{falling_on, jumping}
use Rattle.grain_explain.proofs.claim.Claim.check_edges.Goals as goal

pub returns-in_err-check_targets-clause-err : goal.returns-in_err-check_targets-clause-err
returns-in_err-check_targets-clause-err g c =
    let p = err_from_is_err_and c.from_residual.result c.from_residual.ensures.1 in
    let (at, named, (is, none)) = c.in_err-check_targets.ensures.err in
    rw (p.1, p.2) (record {
      at = at;
      counts = jumping c.args.self.now.bases.now c.args.row.now c.args.effect.now;
      is = is;
      edge = inl (named, refl);
      astray = λ e. none (e ∙ ap Some (sym (c.to_targets-edge.ensures.counts c.args.self.now.bases.now)));
    })

pub returns-in_err-check_target-clause-err : goal.returns-in_err-check_target-clause-err
returns-in_err-check_target-clause-err g c =
    let p = err_from_is_err_and c.from_residual-in_err-check_target.result c.from_residual-in_err-check_target.ensures.1 in
    let (is, none) = c.in_err-check_target.ensures.err in
    rw (p.1, p.2) (record {
      at = c.args.next;
      counts = falling_on c.args.self.now.bases.now c.args.row.now c.args.effect.now;
      is = is;
      edge = inr (sym c.falls.ensures ∙ c.if-falls.true, refl, refl);
      astray = λ e. none (e ∙ ap Some (sym c.to_next-edge.ensures.counts));
    })
