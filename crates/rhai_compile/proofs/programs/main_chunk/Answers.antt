use Rattle.std.proofs.Common.{◌≡◌, ◌++◌, ◌∷◌, [], List, true, arith, rules, subst}
use Rattle.rhai_compile.proofs.FormParts.{on_ok, own_pass, script_pass}
use Rattle.rhai_emit.proofs.PlaceTests.{each_pass, front_pass, last_pass}
use Rattle.rhai_emit.specs.Places.{list_places, pass, expr_places, script_places}
use Rattle.rhai_syntax.specs.declared.ast.Expr.{Expr}
use Rattle.rhai_compile.proofs.programs.main_chunk.Goals as goal

pub loop-statement-preserved : goal.loop-statement-preserved
loop-statement-preserved c = record {
  written = search rules;
  placed = λ test these old.
      let own : pass test (expr_places c.statement-item.result) ≡ true = each_pass expr_places test c.in-Some.others.now c.loop-statement.statement-index c.statement-item.result (omega arith) c.statement-item.is these in
      c.in_ok-expr.ensures.placed test own
      (c.in_ok-put-2.ensures.placed test (own_pass test c.statement-item.result own) (c.loop-statement.invariant.placed test these old));
}

pub returns-clause-placed : goal.returns-clause-placed
returns-clause-placed c =
    let split : c.args.body.now ≡ c.in-Some.others.now ++ c.in-Some.last.now ∷ [] = search rules in
    on_ok c.ended-2.result
    (λ given test these old.
    let all : pass test (list_places (c.in-Some.others.now ++ c.in-Some.last.now ∷ [])) ≡ true = script_pass test c.in-Some.others.now c.in-Some.last.now (subst (λ (xs : List Expr). pass test (script_places xs) ≡ true) split these) in
    let mine : pass test (expr_places c.in-Some.last.now) ≡ true = last_pass expr_places test c.in-Some.others.now c.in-Some.last.now all in
    let place : test c.in-Some.last.now.place ≡ true = own_pass test c.in-Some.last.now mine in
    given test place
    (c.in_ok-expr-2.ensures.placed test mine
    (c.in_ok-put-3.ensures.placed test place
    (c.loop-statement.invariant.placed test (front_pass expr_places test c.in-Some.others.now c.in-Some.last.now all) old))))
    c.ended-2.ensures.placed
