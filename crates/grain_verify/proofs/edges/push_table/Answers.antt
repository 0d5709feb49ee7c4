use Rattle.std.proofs.Common.{inl, inr, ℕ, List, ◌++◌, map, sym, subst, ◌∙◌, ap, refl}
use Rattle.std.specs.List.{All}
use Rattle.std.proofs.lemmas.Result.{err_from_is_err_and}
use Rattle.grain_verify.specs.Arrivals.{IsStartIn, RefusesSwitch, RefusesTargetOf, all_underway, underway}
use Rattle.grain_rules.specs.Flow.{Switches}
use Rattle.grain_verify.proofs.RefusalsAreFlaws.{err_so}
use Rattle.grain_verify.proofs.edges.push_table.Goals as goal

pub returns-in_err-push_targets-in-None-clause-err : goal.returns-in_err-push_targets-in-None-clause-err
returns-in_err-push_targets-in-None-clause-err g c =
    let p = err_from_is_err_and c.from_residual.result c.from_residual.ensures.1 in
    let e = c.in_err-push_targets-in-None.field-0.0 in
    rw (p.1, p.2) (inl (subst (λ (ts : List ℕ). RefusesTargetOf c.args.starts.now.starts c.args.chunk.now c.args.at ts e) c.targets.ensures c.in_err-push_targets-in-None.ensures.err))

pub returns-in-Some-get-clause-err : goal.returns-in-Some-get-clause-err
returns-in-Some-get-clause-err g c =
    let before = c.in-Some-get.before in
    let leads = g.P.Read.leads c.args.pools.now in
    let known = sym c.get.ensures ∙ c.in-Some-get.is in
    err_so c.check_same.result (λ e h. inr (subst (RefusesSwitch leads (Switches c.args.index) c.args.after c.args.sent.now) (sym h.0)
    (c.args.index, before, refl, known, h.1, c.in-Some.ensures.some.1, refl, refl))) c.check_same.ensures.err

pub returns-in_ok-push_targets-in-None-clause-sends : goal.returns-in_ok-push_targets-in-None-clause-sends
returns-in_ok-push_targets-in-None-clause-sends g c =
    let found = c.targets.ensures in
    let pushed = c.in_ok-push_targets-in-None.ensures.pushed in
    let P = IsStartIn c.args.starts.now.starts c.args.chunk.now in
    inl (record {
      starts_in = subst (All P) found pushed.starts_in;
      added = pushed.added ∙ ap (λ (ts : List ℕ). map underway c.args.work.now.items ++ all_underway c.args.after ts) found;
      noted = inr (c.args.index, refl, c.set.ensures);
    })
