-- States by number, valid in one chunk.
use Rattle.std.specs.Prelude.{ℕ, ◌-◌, ◌^◌, ◌<◌, ◌≤◌, List, Option, None, Some, cond, map, nat_eq}
use Rattle.std.specs.List.{All}
use Rattle.grain_verify.specs.declared.state.State.{State}
use Rattle.grain_verify.specs.declared.states.Entry.{Entry}

-- what an entry says in the chunk of this number
abbrev pub state_in : ℕ → Entry → Option State
state_in chunk e = cond (nat_eq e.chunk chunk) (Some e.state) None

abbrev pub no_state : Option State
no_state = None

-- what they say, one by one
abbrev pub states_of : ℕ → List Entry → List (Option State)
states_of chunk entries = map (state_in chunk) entries

-- chunks are numbered downwards, below the number of entries of none
pub record AreKept (chunk : ℕ) (entries : List Entry) : Type 0 where
  pub numbered : chunk < 2 ^ 32 - 1
  pub later : All (λ (e : Entry). chunk ≤ e.chunk) entries
