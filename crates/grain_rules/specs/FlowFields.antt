-- The fields of a flow's row, each by itself. What is judged reads the row; proofs and the walk speak of these.
use Rattle.std.specs.Prelude.{ℕ, Bool, List, []}
use Rattle.grain_rules.specs.Counts.{Base, Counts, armed, without_last}
use Rattle.grain_rules.specs.Flow.{Flow, Falls, Ends, Jumps, Branches, Switches, BeginsIterator, AdvancesIterator, EndsIterator, PushesHandler, PopsHandler, leaving}

abbrev pub iterators_for : Flow → ℕ
iterators_for f = (leaving [] f).iterators

abbrev pub handlers_for : Flow → ℕ
handlers_for f = (leaving [] f).handlers

abbrev pub targets_for : List (List ℕ) → Flow → List ℕ
targets_for switches f = (leaving switches f).targets

-- whether an ordinary step follows the edges to its targets
abbrev pub jumps_for : Flow → Bool
jumps_for f = (leaving [] f).jumps

abbrev pub falls_for : Flow → Bool
falls_for f = (leaving [] f).falls

abbrev pub jump_for : Flow → ℕ → Counts → Counts
jump_for f = (leaving [] f).jump

abbrev pub fall_for : Flow → ℕ → Counts → Counts
fall_for f = (leaving [] f).fall

-- the bases of the handlers that are armed behind it
abbrev pub bases_for : Flow → Counts → List Base
bases_for Falls c = c.bases
bases_for Ends c = c.bases
bases_for (Jumps target) c = c.bases
bases_for (Branches target) c = c.bases
bases_for (Switches w) c = c.bases
bases_for BeginsIterator c = c.bases
bases_for (AdvancesIterator exit) c = c.bases
bases_for EndsIterator c = c.bases
bases_for (PushesHandler target) c = armed c
bases_for PopsHandler c = without_last c.bases
