-- A list of operations whose targets are indices, with the code that is assembled of it.
use Rattle.std.specs.Prelude.{ℕ, ◌≤◌, List, map}
use Rattle.std.specs.List.{All}
use Rattle.grain_code.specs.Span.{Span}
use Rattle.grain_code.specs.declared.op.Op.{Op}
use Rattle.grain_rules.specs.Code.{Code}
use Rattle.grain_rules.specs.Layout.{Coded, Listed}
use Rattle.grain_rules.specs.Setting.{Setting}

-- a chunk of indices that lies in a list of this many operations
pub record IsCut (n : ℕ) (cut : Span) : Type 0 where
  pub ordered : cut.entry ≤ cut.end
  pub inside : cut.end ≤ n

-- each target of each switch is an index of this many operations, or their end
abbrev pub LeadWithin : ℕ → List (List ℕ) → Type 0
LeadWithin n switches = All (All (λ target. target ≤ n)) switches

-- the operations by index, with the indices to which each switch leads
abbrev pub code_by_index : Setting → List Op → List (List ℕ) → Code
code_by_index s ops switches = record { setting = s; layout = Listed ops switches }

-- the code with each index to which a switch leads mapped to an address
abbrev pub placed : Setting → (ℕ → ℕ) → List ℕ → List (List ℕ) → Code
placed s f code switches = record { setting = s; layout = Coded code (map (map f) switches) }

-- a chunk of indices, at the addresses that they have
abbrev pub span_moved : (ℕ → ℕ) → Span → Span
span_moved f cut = record { entry = f cut.entry; end = f cut.end; max_stack = cut.max_stack }
