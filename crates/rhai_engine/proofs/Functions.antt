-- Functions of a program that begin.
use Rattle.std.proofs.Common.{◌≡◌, ◌↔◌, ◌+◌, ℕ, List, Some, None, Result, Err, slice_get, arith, sym, subst}
use Rattle.std.proofs.lemmas.Grind.{common_steps}
use Rattle.std.proofs.lemmas.Option.{none-some, slice_get-map}
use Rattle.grain_code.specs.Span.{Span}
use Rattle.grain_code.specs.declared.function.Function.{Function}
use Rattle.grain.specs.Program.{Program, chunks_of}
use Rattle.rhai_runtime.specs.Named.{LacksFunction}
use Rattle.rhai_engine.specs.declared.event.BeginError.{BeginError}
use Rattle.rhai_engine.specs.declared.event.BeginError.TheVariants as refusals

-- the chunk of a function, by its index among the chunks of the program
pub function_chunk : (p : Program) (index : ℕ) (function : Function) (chunk : Span) → slice_get p.functions index ≡ Some function → slice_get (chunks_of p) (index + 1) ≡ Some chunk → function.chunk ≡ chunk
function_chunk p index function chunk there among =
    grind (arith, common_steps, there, among, slice_get-map (λ (f : Function). f.chunk) p.functions index)

-- a call that has found the function doesn't say that there is none
pub found_otherwise : (p q : Program) (name : List ℕ) (count params index : ℕ) (given : Result (Unit {0}) BeginError)
    → q ≡ p
    → count ≡ params
    → (Some index ≡ None) ↔ LacksFunction q name count
    → (given ≡ Err refusals.NoFunction → ⊥)
    → (given ≡ Err refusals.NoFunction) ↔ LacksFunction p name params
found_otherwise p q name count params index given program counted found other =
    let unlacked : LacksFunction p name params → ⊥ = λ lacks.
    let counts = subst (λ (n : ℕ). LacksFunction p name n) (sym counted) lacks in
    none-some index (sym (found.1 (subst (λ (r : Program). LacksFunction r name count) (sym program) counts))) in
    (λ missing. absurd (other missing), λ lacks. absurd (unlacked lacks))
