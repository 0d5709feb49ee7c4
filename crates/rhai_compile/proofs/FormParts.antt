-- The places of a part of a tree, as its own place and those of its parts.
use Rattle.std.proofs.Common.{◌≡◌, Bool, true, List, [], ◌∷◌, ◌++◌, Result, Ok, Err, ap, ◌∙◌, sym}
use Rattle.std.specs.Prelude.{OnOk}
use Rattle.rhai_emit.proofs.PlaceTests.{and_left}
use Rattle.rhai_emit.specs.Places.{Places, access_joined, arm_joined, both, branch_joined, entry_places, entry_joined, expr_joined, form_places, form_joined, here, list_places, operation_joined, part_joined, pass, expr_places, script_places}
use Rattle.grain_base.specs.declared.pos.Site.{Site}
use Rattle.rhai_syntax.specs.declared.ast.Entry.{Entry, fold_out-Entry}
use Rattle.rhai_syntax.specs.declared.ast.Expr.{Expr, fold_out-Expr}

pub expr_is : (e : Expr) → expr_places e ≡ both (here e.place) (form_places e.form)
expr_is e = fold_out-Expr Places Places Places Places Places Places Places Places form_joined part_joined access_joined arm_joined branch_joined entry_joined expr_joined operation_joined e

pub entry_is : (e : Entry) → entry_places e ≡ expr_places e.value
entry_is e = fold_out-Entry Places Places Places Places Places Places Places Places form_joined part_joined access_joined arm_joined branch_joined entry_joined expr_joined operation_joined e

-- where the places of the forms in an expression pass, its own does
pub own_pass : (test : Site → Bool) (e : Expr) → pass test (expr_places e) ≡ true → test e.place ≡ true
own_pass test e h = and_left (test e.place) (pass test (form_places e.form)) (sym (ap (λ (ps : Places). pass test ps) (expr_is e)) ∙ h)

pub value_pass : (test : Site → Bool) (e : Entry) → pass test (entry_places e) ≡ true → pass test (expr_places e.value) ≡ true
value_pass test e h = sym (ap (λ (ps : Places). pass test ps) (entry_is e)) ∙ h

-- what follows from what holds on success
pub on_ok : {T E P Q : Type 0} (r : Result T E) → (P → Q) → OnOk r P → OnOk r Q
on_ok (Ok x) f h = f h
on_ok (Err e) f h = tt

-- where the places of a script with statements pass, those of its statements do
pub script_pass : (test : Site → Bool) (xs : List Expr) (y : Expr) → pass test (script_places (xs ++ y ∷ [])) ≡ true → pass test (list_places (xs ++ y ∷ [])) ≡ true
script_pass test [] y h = h
script_pass test (x ∷ xs) y h = h
