-- Starts of code, and where they are in the list of them.
use Rattle.std.proofs.Common.{◌≡◌, ℕ, List, Some, slice_get, subst, ap, ◌∙◌}
use Rattle.std.specs.List.{Contains}
use Rattle.std.proofs.lemmas.Option.{get_or_from_slice_get, slice_get-get_or, slice_get_within}
use Rattle.grain_code.specs.Split.{Split}
use Rattle.grain_code.proofs.Splits.{one_split}
use Rattle.grain_rules.specs.Layout.{IsStart}

-- what is at a place is in the list, and what is in the list is at a place
pub placed_contains : (xs : List ℕ) (k x : ℕ) → slice_get xs k ≡ Some x → Contains xs x
placed_contains xs k x h = (k, slice_get_within xs k x h, get_or_from_slice_get xs k x x h)

pub contains_place : (xs : List ℕ) (x : ℕ) → Contains xs x → (k : ℕ) × (slice_get xs k ≡ Some x)
contains_place xs x c = (c.0, slice_get-get_or xs c.0 x c.1 ∙ ap (λ (y : ℕ). Some y) c.2)

-- a start is one of the starts, and each of these is a start
pub start_listed : (bytes starts : List ℕ) (at : ℕ) → Split bytes starts → IsStart bytes at → Contains starts at
start_listed bytes starts at split s = subst (λ (xs : List ℕ). Contains xs at) (one_split bytes s.starts starts s.split split) s.here

pub listed_start : (bytes starts : List ℕ) (at : ℕ) → Split bytes starts → Contains starts at → IsStart bytes at
listed_start bytes starts at split here = record { starts = starts; split = split; here = here }
