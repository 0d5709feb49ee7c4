-- What rules that write code find, and what they leave.
use Rattle.std.specs.Prelude.{◌≡◌, ℕ, ◌≤◌, Bool, true, false}
use Rattle.std.specs.List.{list_all}
use Rattle.grain_builder.specs.Unfinished.{StaysIn}
use Rattle.rhai_emit.specs.Loops.{CanLeave}
use Rattle.rhai_emit.specs.Places.{Places, pass}
use Rattle.grain_base.specs.declared.pos.Site.{Site}
use Rattle.rhai_emit.specs.declared.emitter.Emitter.{Emitter}

-- What is on the stacks stays, and the innermost loop can be left.
pub record Stands (m : Emitter) : Type 0 where
  pub floor : m.code.level.floor ≤ m.code.operands
  pub loop : CanLeave m.scope.around m.code.level m.code.labels

-- Code was written after which there are this many operands. What surrounds it is as it was, and so are the labels that were
-- there, those that are open, and the innermost loop.
pub record IsWritten (old new : Emitter) (n : ℕ) : Type 0 where
  pub operands : new.code.operands ≡ n
  pub level : new.code.level ≡ old.code.level
  pub labels : StaysIn old.code.labels new.code.labels
  pub outers : StaysIn old.code.outers new.code.outers
  pub pending : new.code.pending ≡ old.code.pending
  pub loop : new.scope.around ≡ old.scope.around

-- Code was written that leads away. What is found after it is open.
pub record LeadsAway (old new : Emitter) : Type 0 where
  pub home : new.code.level.home ≡ old.code.level.home
  pub labels : StaysIn old.code.labels new.code.labels
  pub outers : StaysIn old.code.outers new.code.outers
  pub pending : new.code.pending ≡ old.code.pending
  pub loose : new.code.fixed ≡ false
  pub loop : new.scope.around ≡ old.scope.around

-- Each operation that was added has one of these places. It is said by tests: what all old places and these pass, all new ones do.
abbrev pub AddsPlaces : Emitter → Emitter → Places → Type 0
AddsPlaces old new these = (test : Site → Bool) → pass test these ≡ true → list_all test old.code.places ≡ true → list_all test new.code.places ≡ true
