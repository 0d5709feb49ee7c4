use Rattle.std.proofs.Common.{◌≡◌, ◌++◌, ◌∷◌, [], List, true, arith, rules, subst}
use Rattle.rhai_compile.proofs.FormParts.{on_ok}
use Rattle.rhai_emit.proofs.PlaceTests.{and_right, each_pass, front_pass, last_pass}
use Rattle.rhai_emit.specs.Places.{list_places, pass, expr_places}
use Rattle.rhai_syntax.specs.declared.ast.Expr.{Expr}
use Rattle.rhai_compile.proofs.coder.Coder.statements.Goals as goal

pub loop-statement-preserved : goal.loop-statement-preserved
loop-statement-preserved g c = record {
  written = search rules;
  placed = λ test these old.
      c.in_ok-expr.ensures.placed test
      (each_pass expr_places test c.in-Some.others.now c.loop-statement.statement-index c.statement-item.result (omega arith) c.statement-item.is these)
      (c.loop-statement.invariant.placed test these old);
}

pub returns-clause-placed : goal.returns-clause-placed
returns-clause-placed g c =
    let split : c.args.statements.now ≡ c.in-Some.others.now ++ c.in-Some.last.now ∷ [] = search rules in
    on_ok c.expr-2.result
    (λ given test these old.
    let all : pass test (list_places (c.in-Some.others.now ++ c.in-Some.last.now ∷ [])) ≡ true = subst (λ (xs : List Expr). pass test (list_places xs) ≡ true) split (and_right (test c.args.place) (pass test (list_places c.args.statements.now)) these) in
    given test (last_pass expr_places test c.in-Some.others.now c.in-Some.last.now all) (c.loop-statement.invariant.placed test (front_pass expr_places test c.in-Some.others.now c.in-Some.last.now all) old))
    c.expr-2.ensures.placed
