use Rattle.std.proofs.Common.{length, ap, subst, arith}
use Rattle.std.proofs.lemmas.Option.{slice_get-get_or}
use Rattle.grain_machine.specs.Decoded.{AreDecoded}
use Rattle.grain_machine.specs.State.{IsRunnable, Runs, state_of}
use Rattle.grain_machine.proofs.DecodedCode.{entry_here, stands_within}
use Rattle.grain_machine.proofs.prepared.Runnable.read.Goals as goal

pub bounds-decoded-at : goal.bounds-decoded-at
bounds-decoded-at g c =
    let inside = stands_within c.args.self.now (state_of c.args.frame.now) (subst IsRunnable c.self.view_is c.self.invariant.0) c.requires in
    let long = c.self.invariant.2.long in
    let same = ap (λ (x : Runs). length x.program.code) c.self.view_is in
    let at = c.at-at.ensures in
    omega arith

pub offset_bounds-decoded-at : goal.offset_bounds-decoded-at
offset_bounds-decoded-at g c =
    let inside = bounds-decoded-at g c in
    let small = c.self.told2 in
    omega arith

pub returns-clause-at : goal.returns-clause-at
returns-clause-at g c =
    let all = c.self.inside.decoded.now in
    let decoded = subst (λ (x : Runs). AreDecoded x.program (length x.program.code) all) c.self.view_is c.self.invariant.2 in
    (entry_here c.args.self.now (state_of c.args.frame.now) all c.at-at.result _ (subst IsRunnable c.self.view_is c.self.invariant.0) c.requires decoded c.at-at.ensures
    (slice_get-get_or all c.at-at.result _ (bounds-decoded-at g c))).0

pub returns-clause-takes : goal.returns-clause-takes
returns-clause-takes g c =
    let all = c.self.inside.decoded.now in
    let decoded = subst (λ (x : Runs). AreDecoded x.program (length x.program.code) all) c.self.view_is c.self.invariant.2 in
    (entry_here c.args.self.now (state_of c.args.frame.now) all c.at-at.result _ (subst IsRunnable c.self.view_is c.self.invariant.0) c.requires decoded c.at-at.ensures
    (slice_get-get_or all c.at-at.result _ (bounds-decoded-at g c))).1
