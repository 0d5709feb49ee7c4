-- What each rule requires of the function that writes the code of an expression.
use Rattle.std.specs.Prelude.{◌+◌, ⊤, ℕ, Bool, OnOk, Result}
use Rattle.std.specs.Borrow.{Bor, MutBor}
use Rattle.rhai_emit.specs.Loops.{count}
use Rattle.rhai_emit.specs.Places.{expr_places}
use Rattle.rhai_emit.specs.Rules.{AddsPlaces, IsWritten, Stands}
use Rattle.rhai_emit.specs.declared.emitter.Emitter.{Emitter}
use Rattle.rhai_errors.specs.declared.error.CompileError.{CompileError}
use Rattle.rhai_syntax.specs.declared.ast.Expr.{Expr}

-- At a depth it may be called wherever code stands. It writes code that leaves the value if it is wanted, and adds the places of the
-- expression.
pub record Writes (pre : MutBor Emitter → Bor Expr → ℕ → Bool → Type 0) (post : MutBor Emitter → Bor Expr → ℕ → Bool → Result ⊤ CompileError → MutBor Emitter → Type 0) (depth : ℕ) : Type 0 where
  pub may : (m : MutBor Emitter) (e : Bor Expr) (w : Bool) → Stands m.now → pre m e depth w
  pub does : (m : MutBor Emitter) (e : Bor Expr) (w : Bool) (r : Result ⊤ CompileError) (n : MutBor Emitter) → post m e depth w r n
      → OnOk r (IsWritten m.now n.now (m.now.code.operands + count w))
  pub adds : (m : MutBor Emitter) (e : Bor Expr) (w : Bool) (r : Result ⊤ CompileError) (n : MutBor Emitter) → post m e depth w r n
      → OnOk r (AddsPlaces m.now n.now (expr_places e.now))
