-- Where the forms of a syntax tree are: the places that operations may have which are made from it. A form is an expression, an
-- operator with its right operand, a step of an access, an arm of a switch, and a function. A variable that is declared is none:
-- the operation that declares it has the place of the statement.
use Rattle.std.specs.Prelude.{◌≡◌, ◌⊎◌, Bool, true, ◌&&◌, List, [], ◌∷◌, map, Option, Some, None}
use Rattle.std.specs.declared.alloc.Global.{Global}
use Rattle.std.specs.declared.boxed.Box.{Box}
use Rattle.rhai_syntax.specs.declared.ast.Access.{Access, fold-Access}
use Rattle.rhai_syntax.specs.declared.ast.Arm.{Arm, fold-Arm}
use Rattle.rhai_syntax.specs.declared.ast.Branch.{Branch, fold-Branch}
use Rattle.rhai_syntax.specs.declared.ast.Entry.{Entry, fold-Entry}
use Rattle.rhai_syntax.specs.declared.ast.Expr.{Expr, fold-Expr}
use Rattle.rhai_syntax.specs.declared.ast.Form.{Form, fold-Form}
use Rattle.rhai_syntax.specs.declared.ast.Form.TheOpen.{Access-F, Arm-F, Branch-F, Entry-F, Expr-F, Form-F, Operation-F, Part-F}
use Rattle.rhai_syntax.specs.declared.ast.Function.{Function}
use Rattle.rhai_syntax.specs.declared.ast.Operation.{Operation, fold-Operation}
use Rattle.rhai_syntax.specs.declared.ast.Syntax.{Syntax}
use Rattle.grain_base.specs.declared.pos.Site.{Site}

-- Some places. They are joined as the parts of the tree are, so that what holds of all of them computes to what holds of the parts.
pub data Places : Type 0 where
  nowhere : Places
  here : Site → Places
  both : Places → Places → Places

-- whether each of the places passes the test
abbrev pub pass : (Site → Bool) → Places → Bool
pass test nowhere = true
pass test (here place) = test place
pass test (both some others) = pass test some && pass test others

-- the places of all parts
abbrev pub all_of : List Places → Places
all_of [] = nowhere
all_of (some ∷ others) = both some (all_of others)

-- those of a part that may be left out
abbrev pub if_any : Option Places → Places
if_any None = nowhere
if_any (Some some) = some

abbrev pub boxed : Option (Box Places Global) → Places
boxed None = nowhere
boxed (Some some) = some.value

abbrev pub form_joined : Form-F Places Places Places Places Places Places Places Places → Places
form_joined (Form-F.Literal literal) = nowhere
form_joined (Form-F.Name name) = nowhere
form_joined (Form-F.Qualified space name) = nowhere
form_joined Form-F.This = nowhere
form_joined (Form-F.Interpolated pieces) = all_of pieces.items
form_joined (Form-F.Array items) = all_of items.items
form_joined (Form-F.Map entries) = all_of entries.items
form_joined (Form-F.Prefixed operator operand) = operand.value
form_joined (Form-F.Operations first rest) = both first.value (all_of rest.items)
form_joined (Form-F.Call name arguments) = all_of arguments.items
form_joined (Form-F.Access root steps) = both root.value (all_of steps.items)
form_joined (Form-F.Closure index) = nowhere
form_joined (Form-F.Block body) = all_of body.items
form_joined (Form-F.If branches otherwise) = both (all_of branches.items) (all_of otherwise.items)
form_joined (Form-F.Switch subject arms) = both subject.value (all_of arms.items)
form_joined (Form-F.While condition body) = both condition.value (all_of body.items)
form_joined (Form-F.Loop body) = all_of body.items
form_joined (Form-F.Do body condition goes_on) = both (all_of body.items) condition.value
form_joined (Form-F.For name counter items body) = both items.value (all_of body.items)
form_joined (Form-F.Let name is_const value) = boxed value
form_joined (Form-F.Assign target operator value) = both target.value value.value
form_joined (Form-F.Return value) = boxed value
form_joined (Form-F.Throw value) = boxed value
form_joined (Form-F.Break value) = boxed value
form_joined Form-F.Continue = nowhere
form_joined (Form-F.Try body catch catching) = both (all_of body.items) (all_of catching.items)

abbrev pub part_joined : Part-F Places Places Places Places Places Places Places Places → Places
part_joined (Part-F.Index index) = index
part_joined (Part-F.Property name) = nowhere
part_joined (Part-F.Method name arguments) = all_of arguments.items

abbrev pub access_joined : Access-F Places Places Places Places Places Places Places Places → Places
access_joined access = both (here access.place) access.part

abbrev pub arm_joined : Arm-F Places Places Places Places Places Places Places Places → Places
arm_joined arm = both (here arm.place) (both (if_any arm.condition) arm.body)

abbrev pub branch_joined : Branch-F Places Places Places Places Places Places Places Places → Places
branch_joined branch = both branch.condition (all_of branch.body.items)

abbrev pub entry_joined : Entry-F Places Places Places Places Places Places Places Places → Places
entry_joined entry = entry.value

abbrev pub expr_joined : Expr-F Places Places Places Places Places Places Places Places → Places
expr_joined expr = both (here expr.place) expr.form

abbrev pub operation_joined : Operation-F Places Places Places Places Places Places Places Places → Places
operation_joined operation = both (here operation.place) operation.right

-- the places of the forms in an expression, its own among them
abbrev pub expr_places : Expr → Places
expr_places = fold-Expr Places Places Places Places Places Places Places Places form_joined part_joined access_joined arm_joined branch_joined entry_joined expr_joined operation_joined

-- those of the forms in it, its own apart
abbrev pub form_places : Form → Places
form_places = fold-Form Places Places Places Places Places Places Places Places form_joined part_joined access_joined arm_joined branch_joined entry_joined expr_joined operation_joined

-- those of an operator and its right operand
abbrev pub operation_places : Operation → Places
operation_places = fold-Operation Places Places Places Places Places Places Places Places form_joined part_joined access_joined arm_joined branch_joined entry_joined expr_joined operation_joined

-- those of a step and what is in it
abbrev pub step_places : Access → Places
step_places = fold-Access Places Places Places Places Places Places Places Places form_joined part_joined access_joined arm_joined branch_joined entry_joined expr_joined operation_joined

-- those of an entry of an object map
abbrev pub entry_places : Entry → Places
entry_places = fold-Entry Places Places Places Places Places Places Places Places form_joined part_joined access_joined arm_joined branch_joined entry_joined expr_joined operation_joined

-- those of a condition and its block
abbrev pub branch_places : Branch → Places
branch_places = fold-Branch Places Places Places Places Places Places Places Places form_joined part_joined access_joined arm_joined branch_joined entry_joined expr_joined operation_joined

-- those of an arm
abbrev pub arm_places : Arm → Places
arm_places = fold-Arm Places Places Places Places Places Places Places Places form_joined part_joined access_joined arm_joined branch_joined entry_joined expr_joined operation_joined

-- those of an expression that may be left out
abbrev pub optional_places : Option (Box Expr Global) → Places
optional_places None = nowhere
optional_places (Some value) = expr_places value.value

abbrev pub list_places : List Expr → Places
list_places list = all_of (map expr_places list)

abbrev pub operations_places : List Operation → Places
operations_places list = all_of (map operation_places list)

abbrev pub steps_places : List Access → Places
steps_places list = all_of (map step_places list)

abbrev pub entries_places : List Entry → Places
entries_places list = all_of (map entry_places list)

abbrev pub branches_places : List Branch → Places
branches_places list = all_of (map branch_places list)

abbrev pub arms_places : List Arm → Places
arms_places list = all_of (map arm_places list)

-- where a function begins, and the places of its statements
abbrev pub function_places : Function → Places
function_places function = both (here function.place) (list_places function.body.items)

abbrev pub functions_places : List Function → Places
functions_places functions = all_of (map function_places functions)

-- the start of the text
abbrev pub start : Site
start = record { line = 1; column = 1 }

-- The places of the statements outside of functions, or the start of the text if there is none: its chunk gives unit.
abbrev pub script_places : List Expr → Places
script_places [] = here start
script_places (first ∷ others) = list_places (first ∷ others)

-- the places of a whole source text
abbrev pub syntax_places : Syntax → Places
syntax_places syntax = both (script_places syntax.body.items) (functions_places syntax.functions.items)

-- one of the places
abbrev pub IsOneOf : Places → Site → Type 0
IsOneOf nowhere place = ⊥
IsOneOf (here one) place = one ≡ place
IsOneOf (both some others) place = IsOneOf some place ⊎ IsOneOf others place
