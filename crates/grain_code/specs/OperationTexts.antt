-- What the texts of operations and functions look up.
use Rattle.std.specs.Prelude.{ℕ, List, [], ◌∷◌, ◌++◌, Option, map}
use Rattle.std.specs.Option.{option_to_list}
use Rattle.grain_pools.specs.LookedUp.{Sought, assigned_sought, chain_at_sought, constant, name, names_sought, operator, switch_at_sought, syntax_site}
use Rattle.grain_pools.specs.Pools.{Pools}
use Rattle.grain_code.specs.declared.function.Function.{Function}
use Rattle.grain_code.specs.declared.op.Op.{Op}
use Rattle.grain_code.specs.declared.op.Op.TheVariants as ops

abbrev pub called_sought : Option ℕ → Pools → List Sought
called_sought o p = map operator (option_to_list o)

abbrev pub function_sought : Function → Pools → List Sought
function_sought f p = names_sought (option_to_list f.this_type) p ++ (name f.name ∷ names_sought f.params.items p)

abbrev pub op_sought : Op → Pools → List Sought
op_sought (ops.Const c) p = constant c ∷ []
op_sought ops.Unit p = []
op_sought (ops.Bool b) p = []
op_sought (ops.LoadLocal s) p = []
op_sought (ops.ExportLocal s n) p = name n ∷ []
op_sought (ops.StoreLocal s is_const) p = []
op_sought (ops.LoadNamed n) p = name n ∷ []
op_sought (ops.ExportNamed n n') p = name n ∷ name n' ∷ []
op_sought (ops.AssignNamed n o) p = name n ∷ assigned_sought o p
op_sought (ops.AssignLocal s n o) p = name n ∷ assigned_sought o p
op_sought (ops.DeclareLocal n is_const is_global) p = name n ∷ []
op_sought ops.Pop p = []
op_sought (ops.Jump j) p = []
op_sought (ops.JumpIfTrue j) p = []
op_sought (ops.JumpIfFalse j) p = []
op_sought (ops.SkipIfNotUnit j) p = []
op_sought (ops.Call n a t capture) p = name n ∷ called_sought t p
op_sought (ops.CallRef n a from capture) p = name n ∷ []
op_sought (ops.Rotate a) p = []
op_sought (ops.Switch w) p = switch_at_sought w p
op_sought (ops.Share s) p = []
op_sought (ops.ShareNamed n) p = name n ∷ []
op_sought (ops.LoadShared s) p = []
op_sought (ops.LoadSharedNamed n) p = name n ∷ []
op_sought (ops.MakeClosure n) p = name n ∷ []
op_sought ops.MakeFnPtr p = []
op_sought ops.IsShared p = []
op_sought (ops.Curry a) p = []
op_sought (ops.CallFnPtr a is_method capture from) p = []
op_sought (ops.Chain h) p = chain_at_sought h p
op_sought (ops.MakeArray s) p = []
op_sought (ops.MakeMap s) p = []
op_sought (ops.CheckSize s is_map) p = []
op_sought ops.InterpolateStart p = []
op_sought ops.InterpolateAppend p = []
op_sought ops.InterpolateEnd p = []
op_sought (ops.UnwindTo s) p = []
op_sought ops.Tick p = []
op_sought ops.Checkpoint p = []
op_sought (ops.Statement s) p = []
op_sought ops.Throw p = []
op_sought ops.IterInit p = []
op_sought (ops.IterNext j counter) p = []
op_sought ops.IterDrop p = []
op_sought (ops.PushHandler j n) p = []
op_sought ops.PopHandler p = []
op_sought (ops.StoreShared s) p = []
op_sought ops.Return p = []
op_sought ops.LoadThis p = []
op_sought ops.LoadThisShared p = []
op_sought ops.RequireThis p = []
op_sought (ops.AssignThis o) p = assigned_sought o p
op_sought (ops.EvalAst f rewind) p = []
op_sought (ops.CustomSyntax y) p = syntax_site y ∷ []
op_sought (ops.Import n) p = name n ∷ []
