use Rattle.std.proofs.Common.{refl, sym, subst}
use Rattle.std.proofs.lemmas.Result.{err_from_is_err_and}
use Rattle.grain_code.specs.Split.{Split, starts_from}
use Rattle.grain_verify.proofs.verifier.verify_chunks.Goals as goal

pub walk_chunks-walked-requires : goal.walk_chunks-walked-requires
walk_chunks-walked-requires g c =
    let i = c.candidate.inside in
    let whole = rw (← c.candidate.view_is) at c.requires.indexed in
    let split : Split i.code.now (starts_from 0 whole.0) = (whole.0, whole.1, refl) in
    let known = c.in_ok-starts.ensures (starts_from 0 whole.0) split in
    rw c.new-prepared.ensures (record { starts = subst (Split i.code.now) (sym known) split })

pub returns-in_err-walked-clause-metered : goal.returns-in_err-walked-clause-metered
returns-in_err-walked-clause-metered g c =
    let p = err_from_is_err_and c.from_residual-in_err-walked.result c.from_residual-in_err-walked.ensures.1 in
    rw (← c.candidate.view_is) (λ starts split.
    let same = c.in_ok-starts.ensures starts split in
    let m = rw c.new-prepared.ensures at c.in_err-walked.ensures.metered in
    rw (p.1, p.2, ← same) (record { visits = m.visits; within = m.within; counted = m.counted; reached = tt }))

pub returns-clause-metered : goal.returns-clause-metered
returns-clause-metered g c =
    rw (← c.candidate.view_is) (λ starts split.
    let same = c.in_ok-starts.ensures starts split in
    let m = rw c.new-prepared.ensures at c.in_ok-walked.ensures.metered in
    rw (← same) (record { visits = m.visits; within = m.within; counted = m.counted; reached = m.reached }))

pub returns-in_err-walked-clause-accepts : goal.returns-in_err-walked-clause-accepts
returns-in_err-walked-clause-accepts g c =
    let p = err_from_is_err_and c.from_residual-in_err-walked.result c.from_residual-in_err-walked.ensures.1 in
    let accepts = rw c.new-prepared.ensures at c.in_err-walked.ensures.accepts in
    rw (p.1, p.2, ← c.candidate.view_is) accepts

pub returns-clause-passes : goal.returns-clause-passes
returns-clause-passes g c = rw (← c.candidate.view_is) (rw c.new-prepared.ensures at c.in_ok-walked.ensures.passes)
