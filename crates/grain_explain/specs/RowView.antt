-- Rows of a stack typing, the lists of bases that they name, and the typing that they are.
use Rattle.std.specs.Prelude.{◌≡◌, ◌<◌, ◌≤◌, ℕ, zero, suc, List, [], ◌∷◌, Option, None, Some, cond, length, nat_eq, slice_get, slice_index_or}
use Rattle.grain_rules.specs.Counts.{Base, Counts}
use Rattle.grain_explain.specs.declared.row.LinkedBase.{LinkedBase}
use Rattle.grain_explain.specs.declared.row.Row.{Row}

abbrev pub plain_base : LinkedBase → Base
plain_base b = record { operands = b.operands; iterators = b.iterators }

abbrev pub no_base : LinkedBase
no_base = record { operands = 0; iterators = 0; next = 0 }

-- the bases of the list with a number, at most this many of them
abbrev pub list_within : ℕ → List LinkedBase → ℕ → List Base
list_within zero bases n = []
list_within (suc most) bases zero = []
list_within (suc most) bases (suc k) = plain_base (slice_index_or bases k no_base) ∷ list_within most bases (slice_index_or bases k no_base).next

-- all of them: if bases are linked, no list has more than its number
abbrev pub list_in : List LinkedBase → ℕ → List Base
list_in bases n = list_within n bases n

-- each base lies on a list of bases before it
abbrev pub AreLinked : List LinkedBase → Type 0
AreLinked bases = (k : ℕ) → k < length bases → (slice_index_or bases k no_base).next ≤ k

-- each row names a list that is there
abbrev pub AreListed : List LinkedBase → List Row → Type 0
AreListed bases rows = (k : ℕ) (r : Row) → slice_get rows k ≡ Some r → r.bases ≤ length bases

-- what a row says of its address
abbrev pub counts_of : List LinkedBase → Row → Counts
counts_of bases r = record { operands = r.operands; iterators = r.iterators; bases = list_in bases r.bases }

-- the counts of the first row with an address; nothing is said of an address without a row
abbrev pub typing_of : List LinkedBase → List Row → ℕ → Option Counts
typing_of bases [] at = None
typing_of bases (r ∷ rs) at = cond (nat_eq at r.at) (Some (counts_of bases r)) (typing_of bases rs at)

-- each row's address is above those of the rows before it
abbrev pub AreAscending : List Row → Type 0
AreAscending rows = (i j : ℕ) (a b : Row) → i < j → slice_get rows i ≡ Some a → slice_get rows j ≡ Some b → a.at < b.at
