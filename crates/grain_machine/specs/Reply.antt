-- What the host gives.
use Rattle.std.specs.Prelude.{◌<◌, ⊤, ℕ, length}
use Rattle.grain.specs.Program.{Program}
use Rattle.grain_machine.specs.State.{FrameState, Replaces}
use Rattle.grain_machine.specs.declared.frame.Given.{Given}
use Rattle.grain_machine.specs.declared.frame.Given.TheVariants as outcomes
use Rattle.grain_machine.specs.declared.host.Reply.{Reply}
use Rattle.grain_machine.specs.declared.host.Reply.TheVariants as givens

-- a function that it names is one of the program
abbrev pub NamesFunction : {V : Type 0} → Program → Reply V → Type 0
NamesFunction p (givens.Value value) = ⊤
NamesFunction p (givens.Call function) = function < length p.functions
NamesFunction p givens.Wait = ⊤

-- A value is in the place of what the operation takes. Or a function of the program is to be run, or the value comes later: then
-- only the operands that the host was lent may have changed.
abbrev pub IsGivenHere : {V I : Type 0} → Program → ℕ → FrameState V I → FrameState V I → Given → Type 0
IsGivenHere p takes s t outcomes.Value = Replaces takes 1 s t
IsGivenHere p takes s t (outcomes.Call function) = (function < length p.functions) × Replaces takes takes s t
IsGivenHere p takes s t outcomes.Wait = Replaces takes takes s t
