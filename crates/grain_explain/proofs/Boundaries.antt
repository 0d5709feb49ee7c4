-- Boundaries of whole instructions.
use Rattle.std.proofs.Common.{◌≡◌, inl, inr, ℕ, ◌+◌, ◌<◌, ◌≤◌, List, length, refl, arith}
use Rattle.grain_code.specs.InstructionTable.{width_of}
use Rattle.grain_code.specs.Split.{NoneStandsAt, Split, StandsAt}
use Rattle.grain_code.specs.declared.op.Op.{Op}
use Rattle.grain_rules.specs.Layout.{IsBoundary, IsStart}
use Rattle.grain_rules.proofs.Splits.{boundary_apart, next_start, split_first, split_splits, start_op}

-- whole instructions begin at a boundary
pub first_boundary : (code starts : List ℕ) → Split code starts → IsBoundary code 0
first_boundary code starts split =
    elim (split_first code 0 starts (split_splits code starts split)) [ inl k ↦ inl (record { starts = starts; split = split; here = k }) | inr e ↦ inr e ]

pub boundary_within : (code : List ℕ) (at : ℕ) → IsBoundary code at → at ≤ length code
boundary_within code at (inl s) = let k = (start_op code at s).0 in omega arith
boundary_within code at (inr e) = omega arith

-- a boundary at which an instruction stands is a start
pub start_there : (code : List ℕ) (at : ℕ) → IsBoundary code at → at < length code → IsStart code at
start_there code at (inl s) l = s
start_there code at (inr e) l = absurd (omega arith)

-- what follows an instruction at a boundary is a boundary
pub next_boundary : (code : List ℕ) (at : ℕ) (op : Op) → IsBoundary code at → StandsAt code at op → at < length code → IsBoundary code (at + width_of op)
next_boundary code at op b i l =
    elim (next_start code at (length code) op (start_there code at b l) (inr refl) i l (omega arith)) [ inl k ↦ inl k.1 | inr e ↦ inr e ]

-- none lies between
pub next_above : (code : List ℕ) (at other : ℕ) (op : Op) → IsBoundary code at → IsBoundary code other → StandsAt code at op → at < length code → at < other → at + width_of op ≤ other
next_above code at other op b o i l lt = boundary_apart code at other op (start_there code at b l) o i lt

-- where none stands at a boundary the code ends
pub ends_there : (code : List ℕ) (at : ℕ) → IsBoundary code at → NoneStandsAt code at → at ≡ length code
ends_there code at (inl s) none = let h = (start_op code at s).1 in absurd (none h.0 h.1)
ends_there code at (inr e) none = e
