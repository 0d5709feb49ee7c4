use Rattle.std.proofs.Common.{◌∙◌, ℕ, OnOk, IfErr, subst}
use Rattle.grain_rules.specs.Code.{bytecode_beside}
use Rattle.grain_explain.specs.Certificate.{IsCertificate, RowsFlaw}
use Rattle.grain_explain.proofs.Certified.{chunk_passes, no_rows_flaw}
use Rattle.grain_explain.proofs.EdgeMatches.{on_err, on_ok}
use Rattle.grain_explain.proofs.certificate.check_typing.Goals as goal

pub returns-clause-yes : goal.returns-clause-yes
returns-clause-yes g c =
    let P : ℕ → Type 0 = λ m. OnOk c.check.result (IsCertificate (bytecode_beside c.args.caps.0 (g.P.Read.facts c.args.pools.now) (g.P.Read.leads c.args.pools.now) c.args.code.now) (record c.args.chunk.now { max_stack = m }) c.args.bases.now c.args.rows.now) in
    subst P (c.from.ensures ∙ c.max_stack.ensures) c.check.ensures.yes

pub returns-clause-passes : goal.returns-clause-passes
returns-clause-passes g c = on_ok c.check.result (chunk_passes (bytecode_beside c.args.caps.0 (g.P.Read.facts c.args.pools.now) (g.P.Read.leads c.args.pools.now) c.args.code.now) c.args.chunk.now c.args.bases.now c.args.rows.now) (returns-clause-yes g c)

pub returns-clause-flaw : goal.returns-clause-flaw
returns-clause-flaw g c =
    let P : ℕ → Type 0 = λ m. IfErr c.check.result (RowsFlaw (bytecode_beside c.args.caps.0 (g.P.Read.facts c.args.pools.now) (g.P.Read.leads c.args.pools.now) c.args.code.now) (record c.args.chunk.now { max_stack = m }) c.args.bases.now c.args.rows.now) in
    subst P (c.from.ensures ∙ c.max_stack.ensures) c.check.ensures.err

pub returns-clause-no : goal.returns-clause-no
returns-clause-no g c sure =
    on_err c.check.result (λ e h. no_rows_flaw (bytecode_beside c.args.caps.0 (g.P.Read.facts c.args.pools.now) (g.P.Read.leads c.args.pools.now) c.args.code.now) c.args.chunk.now c.args.bases.now c.args.rows.now sure e h) (returns-clause-flaw g c)
