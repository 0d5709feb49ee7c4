use Rattle.std.proofs.Common.{◌≡◌, ℕ, None, subst, ◌∙◌, get_or}
use Rattle.grain_pools.specs.Names.{span_flaw}
use Rattle.grain_flat.proofs.PoolsFlaws.{cut_more, flaw_after, flaw_none, next_start, rest_of}
use Rattle.grain_flat.proofs.flat.names_flaw.Goals as goal

pub loop-index-preserved : goal.loop-index-preserved
loop-index-preserved c =
    let blob = c.args.blob.now in
    let starts = c.args.starts.now in
    let i = c.loop-index.index in
    let before = c.loop-index.invariant in
    let cut : span_flaw blob c.loop-index.from (get_or (rest_of starts) i 0) ≡ None = c.is_name.ensures.0 c.if-not-is_name.false in
    let next = next_start starts i in
    record {
      same = before.same ∙ flaw_after blob (rest_of starts) c.loop-index.from i c.loop-index-test.true cut;
      from_is = next;
      earlier = cut_more blob starts i before.earlier (
          subst (λ (to : ℕ). span_flaw blob (get_or starts i 0) to ≡ None) next (subst (λ (from : ℕ). span_flaw blob from (get_or (rest_of starts) i 0) ≡ None) before.from_is cut)
          );
    }

pub returns-clause-none : goal.returns-clause-none
returns-clause-none c = c.loop-index.invariant.same ∙ flaw_none c.args.blob.now (rest_of c.args.starts.now) c.loop-index.from c.loop-index.index c.loop-index-test.false c.if-from-blob.false
