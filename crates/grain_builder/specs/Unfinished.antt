-- What is assembled, as the rules that write code see it.
use Rattle.std.specs.Prelude.{◌≡◌, ℕ, ◌+◌, ◌-◌, Bool, true, List, [], ◌∷◌, drop, slice_get, Some}
use Rattle.std.specs.List.{list_all}
use Rattle.grain_base.specs.declared.pos.Site.{Site}
use Rattle.grain_rules.specs.Counts.{Base, last_base}

-- What surrounds the operations that are written: how many operands and iterators have to stay, how many iterators there
-- are, the bases of the armed handlers, and where the chunk begins.
pub record Level : Type 0 where
  pub floor : ℕ
  pub least : ℕ
  pub iterators : ℕ
  pub bases : List Base
  pub home : ℕ

-- what an operation finds: the counts of a typing, and where its chunk begins
pub record Spot : Type 0 where
  pub operands : ℕ
  pub iterators : ℕ
  pub bases : List Base
  pub home : ℕ

-- The operands and what surrounds them; what is found at each label, and which labels were open when it was made; the
-- labels that are open, as one more than the last of them; whether what the next operation finds is settled; and the place of
-- each operation.
pub record Unfinished : Type 0 where
  pub operands : ℕ
  pub level : Level
  pub labels : List Spot
  pub outers : List ℕ
  pub pending : ℕ
  pub fixed : Bool
  pub places : List Site

-- this many operands at a level
abbrev pub spot : ℕ → Level → Spot
spot n l = record { operands = n; iterators = l.iterators; bases = l.bases; home = l.home }

-- each entry stays where it is
abbrev pub StaysIn : {A : Type 0} → List A → List A → Type 0
StaysIn {A} xs ys = (i : ℕ) (x : A) → slice_get xs i ≡ Some x → slice_get ys i ≡ Some x

-- this many operands, all else as it was
pub record LeavesOperands (old new : Unfinished) (n : ℕ) : Type 0 where
  pub operands : new.operands ≡ n
  pub level : new.level ≡ old.level
  pub labels : new.labels ≡ old.labels
  pub outers : new.outers ≡ old.outers
  pub pending : new.pending ≡ old.pending

-- Each operation that was added has this place. It is said by tests: what all old places and this one pass, all new ones do, so
-- that what is written one after the other is put together without a list of it.
abbrev pub AddsPlace : Unfinished → Unfinished → Site → Type 0
AddsPlace old new place = (test : Site → Bool) → test place ≡ true → list_all test old.places ≡ true → list_all test new.places ≡ true

-- what surrounds the first operation of a chunk that begins there
abbrev pub fresh : ℕ → Level
fresh home = record { floor = 0; least = 0; iterators = 0; bases = []; home = home }

-- a level with one more iterator; those that are there already stay
abbrev pub level_with_iterator : Level → Level
level_with_iterator l = record l { least = l.iterators; iterators = l.iterators + 1 }

abbrev pub level_without_iterator : Level → Level
level_without_iterator l = record l { iterators = l.iterators - 1 }

-- a level with one more handler, which stands on this many operands and on what iterators there are
abbrev pub level_with_handler : ℕ → Level → Level
level_with_handler n l = record l { floor = n; least = l.iterators; bases = record { operands = n; iterators = l.iterators } ∷ l.bases }

-- a level all of whose operands have to stay, of which there are this many
abbrev pub guarded : ℕ → Level → Level
guarded n l = record l { floor = n }

-- a level with these bases, if no more has to stay than what the last handler stands on
abbrev pub based_on : List Base → Level → Level
based_on bases l = record l { floor = (last_base bases).operands; least = (last_base bases).iterators; bases = bases }

-- a level without this many handlers, the last first
abbrev pub level_without_handlers : ℕ → Level → Level
level_without_handlers n l = based_on (drop n l.bases) l

-- two levels that differ at most in what has to stay
pub record IsSameButFloor (one other : Level) : Type 0 where
  pub iterators : one.iterators ≡ other.iterators
  pub bases : one.bases ≡ other.bases
  pub home : one.home ≡ other.home

-- all labels are as they were, those that are open too
pub record SameLabels (old new : Unfinished) : Type 0 where
  pub labels : new.labels ≡ old.labels
  pub outers : new.outers ≡ old.outers
  pub pending : new.pending ≡ old.pending
