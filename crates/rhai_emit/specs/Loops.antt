-- What `break` and `continue` find.
use Rattle.std.specs.Prelude.{◌≡◌, ℕ, ◌+◌, ◌-◌, ◌≤◌, Bool, cond, List, ◌++◌, length, slice_get, Some, Option, None}
use Rattle.grain_rules.specs.Counts.{Base, last_base}
use Rattle.grain_builder.specs.Unfinished.{Level, Spot, spot}
use Rattle.rhai_emit.specs.declared.scope.Loop.{Loop}

abbrev pub count : Bool → ℕ
count b = cond b 1 0

-- Where a loop goes on and where it ends is found what was there when its body began, without its iterator at the end. The
-- handlers that were armed in its body come first.
pub record IsInside (l : Loop) (level : Level) (labels : List Spot) : Type 0 where
  pub above : List Base
  pub below : List Base
  pub bases : level.bases ≡ above ++ below
  pub handlers : length below ≡ l.handlers
  pub height : l.height ≤ level.floor
  pub low : (last_base below).operands ≤ l.height
  pub least : (last_base below).iterators + count l.walks ≤ level.iterators
  pub next : slice_get labels l.next ≡ Some (record { operands = l.height; iterators = level.iterators; bases = below; home = level.home })
  pub end : slice_get labels l.end ≡ Some (record { operands = l.height + count l.is_wanted; iterators = level.iterators - count l.walks; bases = below; home = level.home })

-- What `break` and `continue` find once the handlers that were armed in the loop are disarmed.
pub record IsBare (l : Loop) (level : Level) (labels : List Spot) : Type 0 where
  pub floor : level.floor ≤ l.height
  pub least : level.least + count l.walks ≤ level.iterators
  pub next : slice_get labels l.next ≡ Some (spot l.height level)
  pub end : slice_get labels l.end ≡ Some (record { operands = l.height + count l.is_wanted; iterators = level.iterators - count l.walks; bases = level.bases; home = level.home })

-- the innermost loop, if there is one, can be left
abbrev pub CanLeave : Option Loop → Level → List Spot → Type 0
CanLeave None level labels = Unit {0}
CanLeave (Some l) level labels = IsInside l level labels
