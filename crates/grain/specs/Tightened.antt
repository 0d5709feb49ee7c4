-- Chunks that declare as many operands as they stack, and no more.
use Rattle.std.specs.Prelude.{◌≡◌, ◌≤◌, map}
use Rattle.std.specs.List.{AllZip}
use Rattle.grain_code.specs.Span.{undeclared_chunk}
use Rattle.grain_code.specs.declared.function.Function.{Function}
use Rattle.grain_rules.specs.Accepted.{AreDeepest, IsAccepted}
use Rattle.grain.specs.Program.{Program, declared_by, input_of}

-- the function with nothing declared
abbrev pub undeclared_function : Function → Function
undeclared_function f = record f { chunk = undeclared_chunk f.chunk }

-- the program with nothing declared by its chunks
abbrev pub undeclared : Program → Program
undeclared p = record p { main = undeclared_chunk p.main; functions = map undeclared_function p.functions }

-- The program was accepted, and each of its chunks declares its number now, all else being as it was. It is accepted with
-- the same numbers, and with no smaller ones declared.
pub record IsTightened (old new : Program) : Type 0 where
  pub accepted : IsAccepted (input_of old)
  pub numbers : AreDeepest (input_of old) (declared_by new)
  pub rest : undeclared new ≡ undeclared old
  pub again : IsAccepted (input_of new)
  pub same : AreDeepest (input_of new) (declared_by new)
  pub least : (p : Program) → undeclared p ≡ undeclared new → IsAccepted (input_of p) → AllZip (λ n m. n ≤ m) (declared_by new) (declared_by p)
