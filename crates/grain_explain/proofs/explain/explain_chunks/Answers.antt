use Rattle.std.proofs.Common.{ap, refl, sym, subst, List, ◌∙◌}
use Rattle.std.specs.List.{AllZip}
use Rattle.std.proofs.lemmas.List.{take_all}
use Rattle.grain_code.specs.Span.{Span}
use Rattle.grain_code.specs.Split.{Split, starts_from}
use Rattle.grain_code.specs.Starts.{Front}
use Rattle.grain_rules.specs.Code.{bytecode_beside}
use Rattle.grain_rules.proofs.Whole.{no_code_flaw}
use Rattle.grain_explain.specs.Explaining.{IsExplained}
use Rattle.grain_explain.proofs.Chunkwise.{all_exact, chunk_more}
use Rattle.grain_explain.proofs.Sceneries.{not_err, of_err}
use Rattle.grain_explain.proofs.explain.explain_chunks.Goals as goal

pub explain-requires : goal.explain-requires
explain-requires g c =
    let whole = not_err c.check_code.result (sym c.is_err.ensures.value ∙ c.if-is_err.false) c.check_code.ensures.ok c.args.caps.0 in
    let split : Split c.args.code.now (starts_from 0 whole.0) = (whole.0, whole.1, refl) in
    let known = c.in_ok-starts.ensures.whole (starts_from 0 whole.0) split in
    subst (Split c.args.code.now) (sym (ap (λ (f : Front). f.starts) known)) split

pub returns-then-is_err-clause-cause : goal.returns-then-is_err-clause-cause
returns-then-is_err-clause-cause g c =
    let flawed = of_err c.check_code.result (sym c.is_err.ensures.value ∙ c.if-is_err.true) c.check_code.ensures.err in
    let code = bytecode_beside c.args.caps.0 (g.P.Read.facts c.args.pools.now) (g.P.Read.leads c.args.pools.now) c.args.code.now in
    record {
      bad = λ e indexed. no_code_flaw code.setting code.bytes flawed.0 indexed (flawed.1 c.args.caps.0);
      good = λ unlike. absurd (unlike refl);
    }

pub loop-chunk-preserved : goal.loop-chunk-preserved
loop-chunk-preserved g c =
    let R = IsExplained (bytecode_beside c.args.caps.0 (g.P.Read.facts c.args.pools.now) (g.P.Read.leads c.args.pools.now) c.args.code.now) in
    rw c.in_ok-push.ensures.items
    (chunk_more R c.args.chunks.now c.loop-chunk.explained.items c.loop-chunk.chunk-index c.chunk-item.result c.in_ok-explain.field-0 c.loop-chunk-test.true c.chunk-item.is c.loop-chunk.invariant c.in_ok-explain.ensures)

pub returns-clause-exact : goal.returns-clause-exact
returns-clause-exact g c =
    let code = bytecode_beside c.args.caps.0 (g.P.Read.facts c.args.pools.now) (g.P.Read.leads c.args.pools.now) c.args.code.now in
    let all = subst (λ (chunks : List Span). AllZip (IsExplained code) chunks c.loop-chunk.explained.items) (take_all c.loop-chunk.chunk-index c.args.chunks.now c.loop-chunk-test.false) c.loop-chunk.invariant in
    all_exact code c.args.chunks.now c.loop-chunk.explained.items all
