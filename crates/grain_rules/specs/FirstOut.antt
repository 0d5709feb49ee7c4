-- The first of some indices that is out of bounds.
use Rattle.std.specs.Prelude.{◌≡◌, ℕ, List, [], ◌∷◌, Option, Some, None, Result, Ok, Err, cond, nat_lt, map, get_or, codes}
use Rattle.grain_code.specs.declared.field.Pool.TheVariants.{Names}
use Rattle.grain_code.specs.declared.op.Receiver.{Receiver}
use Rattle.grain_code.specs.declared.op.Receiver.TheVariants as receiver
use Rattle.grain_pools.specs.Dispatch.{first_past}
use Rattle.grain_rules.specs.Facts.{ChainFacts, Facts, Mention, Entry}
use Rattle.grain_rules.specs.Indices.{Test, entry_name, test_of}
use Rattle.grain_rules.specs.Setting.{Setting, with_caps}
use Rattle.grain_rules.specs.declared.bounds.BadIndex.{BadIndex}
use Rattle.grain_rules.specs.declared.bounds.Bound.{Bound}
use Rattle.grain_rules.specs.declared.bounds.Bound.TheVariants as bounds
use Rattle.grain_rules.specs.Passed.{HasPassed}

-- the facts alone: bounds of indices don't depend on the capabilities
abbrev pub alone : Facts → Setting
alone facts = with_caps 0 facts

-- what the first index is called that is out of bounds, and the index
abbrev pub first_out : List Test → Option (List ℕ × ℕ)
first_out [] = None
first_out (t ∷ ts) = cond (nat_lt t.index t.bound) (first_out ts) (Some (t.what, t.index))

-- the name that a receiver has
abbrev pub receiver_mentions : Receiver → List Mention
receiver_mentions (receiver.Named n) = Entry Names n ∷ []
receiver_mentions (receiver.Local slot) = []
receiver_mentions receiver.This = []

-- the tests inside the chain at an index; past the chains there are none
abbrev pub tests_inside : Facts → ℕ → List Test
tests_inside facts x = map (test_of (alone facts)) (get_or (map (λ (c : ChainFacts). c.mentions) facts.chains) x [])

-- the chains that have passed have no index out of bounds
abbrev pub ChainsPass : Facts → List ℕ → Type 0
ChainsPass facts passed = (i : ℕ) → HasPassed passed i → first_out (tests_inside facts i) ≡ None

-- the switches that have passed have no case whose constant is out of bounds
abbrev pub CasesPass : Facts → List ℕ → Type 0
CasesPass facts passed = (i : ℕ) → HasPassed passed i → first_past facts.consts (get_or facts.cases i []) ≡ None

-- both of what has passed
pub record HavePassed (facts : Facts) (chains switches : List ℕ) : Type 0 where
  pub chains_pass : ChainsPass facts chains
  pub switches_pass : CasesPass facts switches

-- what a refusal calls an index with this bound
abbrev pub bound_word : Bound → List ℕ
bound_word (bounds.Pool pool) = entry_name pool
bound_word bounds.Operands = codes "operand"

-- what a refusal calls the index, and the index
abbrev pub refused : {T : Type 0} → Result T BadIndex → Option (List ℕ × ℕ)
refused (Ok x) = None
refused (Err bad) = Some (bound_word bad.bound, bad.index)
