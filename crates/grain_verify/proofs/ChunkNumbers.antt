-- States that are valid in one chunk.
use Rattle.std.proofs.Common.{◌≡◌, ℕ, ◌<◌, suc, cond, nat_eq, true, false, List, [], ◌∷◌, length, map, replicate, set, Option, None, Some, refl, ap, ◌∙◌, arith}
use Rattle.std.specs.List.{All}
use Rattle.std.proofs.lemmas.List.{map-set}
use Rattle.std.proofs.lemmas.Bool.Decides.{nat_tests}
use Rattle.grain_verify.specs.States.{no_state, state_in, states_of}
use Rattle.grain_verify.specs.declared.state.State.{State}
use Rattle.grain_verify.specs.declared.states.Entry.{Entry}

is_other : (a b : ℕ) → b < a → nat_eq a b ≡ false
is_other a b l = grind (arith, nat_tests)

is_same : (n : ℕ) → nat_eq n n ≡ true
is_same n = grind (arith, nat_tests)

-- entries of earlier chunks say nothing
pub nothing_later : (chunk : ℕ) (es : List Entry) → All (λ (e : Entry). chunk < e.chunk) es → states_of chunk es ≡ replicate (length es) no_state
nothing_later chunk [] all = refl
nothing_later chunk (e ∷ es) all =
    ap (λ (s : Option State). s ∷ map (state_in chunk) es) (ap (λ b. cond b (Some e.state) None) (is_other e.chunk chunk (all 0 e (omega arith))))
    ∙ ap (λ (ss : List (Option State)). no_state ∷ ss) (nothing_later chunk es (λ k d l. all (suc k) d (omega arith)))

-- an entry that is set says what it was set to
pub set_here : (chunk : ℕ) (es : List Entry) (k : ℕ) (s : State) → states_of chunk (set es k (record { chunk = chunk; state = s })) ≡ set (states_of chunk es) k (Some s)
set_here chunk es k s =
    map-set (state_in chunk) es k (record { chunk = chunk; state = s })
    ∙ ap (λ b. set (map (state_in chunk) es) k (cond b (Some s) None)) (is_same chunk)
