use Rattle.std.proofs.Common.{◌≤◌, [], ℕ, List, ap, length, refl, subst, sym, arith}
use Rattle.std.specs.List.{All}
use Rattle.std.proofs.lemmas.List.{append-nil}
use Rattle.grain_rules.specs.Code.{coded}
use Rattle.grain_rules.specs.Counts.{Counts}
use Rattle.grain_rules.specs.Flaw.{ChunkFlaw}
use Rattle.grain_rules.specs.Typing.{Passes}
use Rattle.grain_rules.proofs.Splits.{start_op}
use Rattle.grain_explain.specs.Lacking.{FindsLacking, HasAll}
use Rattle.grain_explain.specs.RowView.{counts_of}
use Rattle.grain_explain.specs.Scenes.{AreCome, IsCome, Leaves, seen}
use Rattle.grain_explain.specs.Ways.{Shows, arrival_stop}
use Rattle.grain_explain.specs.declared.row.LinkedBase.{LinkedBase}
use Rattle.grain_explain.proofs.BaseExtension.{counts_kept, held_more, waits_more}
use Rattle.grain_explain.proofs.Refused.{lacking_flaw, lacking_shows}
use Rattle.grain_explain.proofs.StepsBack.{visits_few}
use Rattle.grain_explain.proofs.scene.Scene.look.Goals as goal

pub decode_standing-op-requires : goal.decode_standing-op-requires
decode_standing-op-requires g c = (start_op c.args.self.now.code.now c.args.here.now.row.at (c.requires.come c.args.place c.args.here.now c.requires.held).come.inside.place).1

pub check_needs-requires-clause-listed : goal.check_needs-requires-clause-listed
check_needs-requires-clause-listed g c =
    subst (λ (bases : List LinkedBase). c.args.here.now.row.bases ≤ length bases) (sym c.deref.ensures.value) (c.requires.come c.args.place c.args.here.now c.requires.held).come.listed

pub leave-requires-clause-listed : goal.leave-requires-clause-listed
leave-requires-clause-listed g c = (c.requires.come c.args.place c.args.here.now c.requires.held).come.listed

pub leave-requires-clause-needs : goal.leave-requires-clause-needs
leave-requires-clause-needs g c =
    let meets = c.in-Ok.ensures.has.meets.operands in
    let numbers = ap (λ (x : ℕ × ℕ × ℕ). x.0) c.in-Ok.ensures.does.numbers in
    omega (arith, meets, numbers)

pub leave-requires-clause-operands : goal.leave-requires-clause-operands
leave-requires-clause-operands g c =
    let held = c.requires.come c.args.place c.args.here.now c.requires.held in
    let low = held.bounded.operands in
    let fewer = held.fewer in
    omega (arith, low, fewer, visits_few c.args.slots.now, c.requires.short)

pub leave-requires-clause-iterators : goal.leave-requires-clause-iterators
leave-requires-clause-iterators g c =
    let held = c.requires.come c.args.place c.args.here.now c.requires.held in
    let low = held.bounded.iterators in
    let fewer = held.fewer in
    omega (arith, low, fewer, visits_few c.args.slots.now, c.requires.short)

pub leave-requires-clause-room : goal.leave-requires-clause-room
leave-requires-clause-room g c = omega (arith, c.requires.few, visits_few c.args.slots.now, c.requires.short)

pub send-requires-clause-left : goal.send-requires-clause-left
send-requires-clause-left g c =
    let s = seen g.P.Read.facts g.P.Read.leads c.args.self.now in
    let slots = c.args.slots.now in
    let row = c.args.here.now.row in
    let op = c.decode_standing-op.result.0 in
    let effect = c.in-Ok.effect in
    let old = c.args.arming.now.bases.items in
    let new = c.leave.new.self.bases.items in
    let extends = c.in_ok-leaving-in-Ok.ensures.extends in
    let come = (c.requires.come c.args.place c.args.here.now c.requires.held).come in
    let kept = counts_kept old new c.requires.linked extends row come.listed in
    let has = subst (λ (bases : List LinkedBase). HasAll s.code.setting op (counts_of bases row)) c.deref.ensures.value c.in-Ok.ensures.has in
    let passes : Passes (coded s.code) s.chunk row.at (counts_of old row) op =
    record { stands = record { within = come.inside; is = c.decode_standing-op.ensures.stands }; meets = has.meets; allowed = has.allowed; stays = has.stays } in
    let back = sym c.deref-in-Ok.ensures.value in
    record {
      op = op;
      does = c.in-Ok.ensures.does;
      passes = subst (λ (bases : List LinkedBase). Passes (coded s.code) s.chunk row.at (counts_of bases row) op) back
          (subst (λ (x : Counts). Passes (coded s.code) s.chunk row.at x op) (sym kept) passes);
      next = c.decode_standing-op.ensures.behind;
      come = subst (λ (bases : List LinkedBase). AreCome s bases slots) back (held_more old new c.requires.linked extends s slots c.requires.come);
      held = c.requires.held;
      leaves = subst (λ (bases : List LinkedBase). Leaves bases row effect c.in_ok-leaving-in-Ok.leaving) back c.in_ok-leaving-in-Ok.ensures.leaves;
    }

pub send-requires-clause-waits : goal.send-requires-clause-waits
send-requires-clause-waits g c =
    let s = seen g.P.Read.facts g.P.Read.leads c.args.self.now in
    let slots = c.args.slots.now in
    let work = c.args.work.now.items in
    let old = c.args.arming.now.bases.items in
    let new = c.leave.new.self.bases.items in
    subst (λ (bases : List LinkedBase). All (IsCome s bases slots) work) (sym c.deref-in-Ok.ensures.value)
    (waits_more old new c.requires.linked c.in_ok-leaving-in-Ok.ensures.extends s slots c.requires.come work c.requires.waits)

pub refuse-requires-clause-come : goal.refuse-requires-clause-come
refuse-requires-clause-come g c = subst (λ (bases : List LinkedBase). AreCome (seen g.P.Read.facts g.P.Read.leads c.args.self.now) bases c.args.slots.now) (sym c.deref-in-Err.ensures.value) c.requires.come

pub refuse-requires-clause-here : goal.refuse-requires-clause-here
refuse-requires-clause-here g c = (c.args.place, c.requires.held)

pub refuse-requires-clause-shows : goal.refuse-requires-clause-shows
refuse-requires-clause-shows g c =
    let s = seen g.P.Read.facts g.P.Read.leads c.args.self.now in
    let row = c.args.here.now.row in
    let op = c.decode_standing-op.result.0 in
    let old = c.args.arming.now.bases.items in
    let lacks = subst (λ (bases : List LinkedBase). FindsLacking s.code.setting op (counts_of bases row) c.in-Err.lack) c.deref.ensures.value c.in-Err.ensures.lacks in
    let come = (c.requires.come c.args.place c.args.here.now c.requires.held).come in
    subst (λ (bases : List LinkedBase). Shows s.code s.chunk (arrival_stop bases c.args.here.now) c.lack_error-error.result) (sym c.deref-in-Err.ensures.value)
    (subst (Shows s.code s.chunk (arrival_stop old c.args.here.now)) (sym c.lack_error-error.ensures)
    (lacking_shows s c.args.self.now.caps old row op c.in-Err.lack refl (record { within = come.inside; is = c.decode_standing-op.ensures.stands }) lacks))

pub refuse-requires-clause-flaw : goal.refuse-requires-clause-flaw
refuse-requires-clause-flaw g c =
    let s = seen g.P.Read.facts g.P.Read.leads c.args.self.now in
    let row = c.args.here.now.row in
    let op = c.decode_standing-op.result.0 in
    let old = c.args.arming.now.bases.items in
    let lacks = subst (λ (bases : List LinkedBase). FindsLacking s.code.setting op (counts_of bases row) c.in-Err.lack) c.deref.ensures.value c.in-Err.ensures.lacks in
    let come = (c.requires.come c.args.place c.args.here.now c.requires.held).come in
    subst (ChunkFlaw s.code s.chunk) (sym c.lack_error-error.ensures)
    (lacking_flaw s c.args.self.now.caps old row op c.in-Err.lack refl c.requires.ready.framed come.reached (record { within = come.inside; is = c.decode_standing-op.ensures.stands }) lacks)

pub returns-in_ok-refuse-in-Err-clause-extends : goal.returns-in_ok-refuse-in-Err-clause-extends
returns-in_ok-refuse-in-Err-clause-extends g c = record { more = []; is = sym (append-nil c.args.arming.now.bases.items); linked = c.requires.linked }
