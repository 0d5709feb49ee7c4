use Rattle.std.proofs.Common.{◌≡◌, ℕ, [], Bool, List, true, ap, rules, subst, sym, ◌∙◌}
use Rattle.std.proofs.lemmas.Result.{IfOk-weaker}
use Rattle.std.specs.List.{All, list_all}
use Rattle.std.specs.Prelude.{IfSome}
use Rattle.rhai_compile.specs.Positions.{EachHasPlace, IsLocated, IsPositionAmong, IsPositionIn}
use Rattle.rhai_compile.proofs.LocatedPositions.{each_has_place}
use Rattle.rhai_compile.proofs.PlacedPositions.{positions_among}
use Rattle.rhai_emit.proofs.PlaceTests.{and_both, and_left, and_right}
use Rattle.rhai_emit.specs.Bodies.{bodies_places}
use Rattle.rhai_emit.specs.Places.{Places, functions_places, pass, script_places, syntax_places}
use Rattle.grain_base.specs.declared.pos.Site.{Site}
use Rattle.rhai_syntax.specs.declared.ast.Expr.{Expr}
use Rattle.rhai_compile.proofs.programs.compile_syntax.Goals as goal

-- what all places of the tree pass, all places of the operations do
all_pass : (c : goal.After-drop-body-2) (test : Site → Bool) → pass test (syntax_places c.args.syntax) ≡ true → list_all test c.chunks.new.emitter.code.places ≡ true
all_pass c test all =
    let begun : c.new-emitter.result.code.places ≡ [] = search rules in
    let body : c.deref-2.result.now ≡ c.args.syntax.body.items = search rules in
    let bodies : bodies_places c.deref-3.result.now ≡ functions_places c.args.syntax.functions.items = ap bodies_places c.deref-3.ensures.value ∙ c.in_ok-signatures.ensures in
    c.in_ok-heads.ensures.placed test
    (and_both (pass test (script_places c.deref-2.result.now)) (pass test (bodies_places c.deref-3.result.now))
    (subst (λ (xs : List Expr). pass test (script_places xs) ≡ true) (sym body) (and_left (pass test (script_places c.args.syntax.body.items)) (pass test (functions_places c.args.syntax.functions.items)) all))
    (subst (λ (ps : Places). pass test ps ≡ true) (sym bodies) (and_right (pass test (script_places c.args.syntax.body.items)) (pass test (functions_places c.args.syntax.functions.items)) all)))
    (ap (list_all test) begun)

pub returns-clause-placed : goal.returns-clause-placed
returns-clause-placed c =
    let places : List Site = c.chunks.new.emitter.code.places in
    let these : Places = syntax_places c.args.syntax in
    IfOk-weaker c.finish.result (λ b. IfSome b.program.positions (All (IsPositionIn places))) (λ b. IfSome b.program.positions (All (IsPositionAmong these)))
    (λ b. positions_among these places (all_pass c) b.program.positions)
    c.finish.ensures.placed

pub returns-clause-located : goal.returns-clause-located
returns-clause-located c =
    let places : List Site = c.chunks.new.emitter.code.places in
    let these : Places = syntax_places c.args.syntax in
    let lengths : List ℕ = c.args.lines.now.lengths.items in
    IfOk-weaker c.finish.result (λ b. IsLocated lengths places b.program) (λ b. EachHasPlace lengths these b.program)
    (λ b. each_has_place lengths these places b.program (all_pass c))
    c.finish.ensures.located
