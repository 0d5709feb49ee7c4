use Rattle.std.proofs.Common.{◌⊎◌, inl, ◌+◌, [], ◌∷◌, ◌++◌, map, ap, refl, sym, subst, arith}
use Rattle.std.proofs.lemmas.List.{append-nil}
use Rattle.grain_verify.specs.Arrivals.{RefusesSwitch, RefusesTargetOf, Sends, underway}
use Rattle.grain_rules.specs.Flow as flows
use Rattle.grain_rules.specs.FlowFields.{targets_for}
use Rattle.grain_verify.specs.declared.state.State.{State}
use Rattle.grain_verify.proofs.FollowedFlow.{ended_refused, followed, followed_on, followed_to, goes_on, refused_there, some_list}
use Rattle.grain_verify.proofs.PushedTargets.{pushed_one}
use Rattle.grain_verify.proofs.walk.follow.Goals as goal

pub returns-in-Falls-clause-followed : goal.returns-in-Falls-clause-followed
returns-in-Falls-clause-followed g c =
    let next = c.next in
    followed_on _ _ _ _ c.args.here _ c.args.lists.now c.args.lists.now _ _ _ _ c.args.effect.target c.in-Falls.is c.args.here.state.list c.requires.list refl _ refl
    (goes_on _ c.args.here next.result _ c.with-after.result _ next.ensures c.with-after.ensures)

pub returns-in-Ends-clause-followed : goal.returns-in-Ends-clause-followed
returns-in-Ends-clause-followed g c =
    followed_on _ _ _ _ c.args.here c.args.width c.args.lists.now c.args.lists.now _ _ _ _ c.args.effect.target c.in-Ends.is c.args.here.state.list c.requires.list refl _ refl refl

pub returns-in-Ok-clause-followed : goal.returns-in-Ok-clause-followed
returns-in-Ok-clause-followed g c =
    let work = c.args.traversal.now.work.items in
    let arrival = c.in-Ok.next in
    let told = c.in-Ok.ensures in
    let pushed = pushed_one c.args.starts.now.starts c.args.chunk.now work arrival c.args.effect.target c.with-after.result told.arrives told.inside told.at_ordinal in
    followed_to _ _ _ _ c.args.here c.args.width c.args.lists.now c.args.lists.now _ work _ _ c.args.effect.target c.in-Jumps.is c.args.here.state.list c.requires.list refl
    (work ++ arrival ∷ []) _ c.with-after.result refl c.with-after.ensures pushed (sym (append-nil (work ++ arrival ∷ [])))

pub returns-in-Ok-push_target-clause-followed : goal.returns-in-Ok-push_target-clause-followed
returns-in-Ok-push_target-clause-followed g c =
    let next = c.next-in-Ok-push_target in
    followed_to _ _ _ _ c.args.here _ c.args.lists.now c.args.lists.now _ _ _ _ c.args.effect.target c.in-Branches.is c.args.here.state.list c.requires.list refl c.push_target.new.work.items
    _ c.with-after.result refl c.with-after.ensures c.in-Ok-push_target.ensures.pushed (goes_on _ c.args.here next.result _ c.with-after.result _ next.ensures c.with-after.ensures)

pub returns-in-Ok-push_table-clause-followed : goal.returns-in-Ok-push_table-clause-followed
returns-in-Ok-push_table-clause-followed g c =
    let t = c.args.traversal.now in
    let work = c.push_table.new.work.items in
    let told = c.in-Ok-push_table.ensures in
    let sends =
    subst (λ (s : State). Sends c.args.starts.now.starts c.args.chunk.now (g.P.Read.leads c.args.pools.now) (flows.Switches c.args.effect.target) s t.sent c.push_table.new.sent
    (map underway t.work.items) (map underway work)) c.with-after.ensures told.sends in
    followed _ _ _ _ c.args.here c.args.width c.args.lists.now c.args.lists.now _ _ _ _ c.args.effect.target c.in-Switches.is c.args.here.state.list c.requires.list refl _ work _ sends
    told.at_ordinal refl

pub returns-in-BeginsIterator-clause-followed : goal.returns-in-BeginsIterator-clause-followed
returns-in-BeginsIterator-clause-followed g c =
    let next = c.next-in-BeginsIterator in
    let begun : State → State = λ s. record { operands = s.operands; iterators = c.args.here.state.iterators + 1; list = s.list } in
    followed_on _ _ _ _ c.args.here _ c.args.lists.now c.args.lists.now _ _ _ _ c.args.effect.target c.in-BeginsIterator.is c.args.here.state.list c.requires.list refl _ refl
    (goes_on _ c.args.here next.result _ (begun c.with-after.result) _ next.ensures (ap begun c.with-after.ensures))

pub returns-in-Ok-push_ended-clause-followed : goal.returns-in-Ok-push_ended-clause-followed
returns-in-Ok-push_ended-clause-followed g c =
    let next = c.next-in-Ok-push_ended in
    followed_to _ _ _ _ c.args.here _ c.args.lists.now c.args.lists.now _ _ _ _ c.args.effect.target c.in-AdvancesIterator.is c.args.here.state.list c.requires.list refl
    c.push_ended.new.work.items _ _ refl refl c.in-Ok-push_ended.ensures.pushed
    (goes_on _ c.args.here next.result _ (record c.args.here.state { operands = c.args.here.state.operands + 1 }) _ next.ensures refl)

pub returns-in-Ok-without_iterators-clause-followed : goal.returns-in-Ok-without_iterators-clause-followed
returns-in-Ok-without_iterators-clause-followed g c =
    let next = c.next-in-Ok-without_iterators in
    followed_on _ _ _ _ c.args.here _ c.args.lists.now c.args.lists.now _ _ _ _ c.args.effect.target c.in-EndsIterator.is c.args.here.state.list c.requires.list refl _ refl
    (goes_on _ c.args.here next.result _ c.in-Ok-without_iterators.ended _ next.ensures c.in-Ok-without_iterators.ensures.ok.1)

pub returns-in-Ok-push_armed-clause-followed : goal.returns-in-Ok-push_armed-clause-followed
returns-in-Ok-push_armed-clause-followed g c =
    let next = c.next-in-Ok-push_armed in
    let armed = c.in-Ok-push_armed.armed in
    let told = c.in-Ok-push_armed.ensures in
    followed_to _ _ _ _ c.args.here _ c.args.lists.now _ _ _ _ _ c.args.effect.target c.in-PushesHandler.is armed.list told.list.0 told.list.1
    c.push_armed.new.work.items _ armed refl told.same told.pushed (goes_on _ c.args.here next.result _ armed _ next.ensures told.same)

pub returns-in-Ok-without_handler-clause-followed : goal.returns-in-Ok-without_handler-clause-followed
returns-in-Ok-without_handler-clause-followed g c =
    let next = c.next-in-Ok-without_handler in
    let left = c.in-Ok-without_handler.left in
    let told = c.in-Ok-without_handler.ensures in
    let lists = c.args.lists.now in
    followed_on _ _ _ _ c.args.here _ lists lists _ _ _ _ c.args.effect.target c.in-PopsHandler.is left.list told.list.0 told.list.1 _ refl
    (goes_on _ c.args.here next.result _ left _ next.ensures told.same.1)

pub returns-in-Err-clause-err : goal.returns-in-Err-clause-err
returns-in-Err-clause-err g c =
    refused_there _ c.args.chunk.now _ _ _ _ _ _ _ c.args.effect.target c.in-Err.error c.in-Jumps.is (record { iterators = omega arith; handlers = omega arith }) (inl c.in-Err.ensures.err)

pub returns-in-Err-push_target-clause-err : goal.returns-in-Err-push_target-clause-err
returns-in-Err-push_target-clause-err g c =
    refused_there _ c.args.chunk.now _ _ _ _ _ _ _ c.args.effect.target c.in-Err-push_target.error c.in-Branches.is
    (record { iterators = omega arith; handlers = omega arith }) (inl c.in-Err-push_target.ensures.err)

pub returns-in-Err-push_table-clause-err : goal.returns-in-Err-push_table-clause-err
returns-in-Err-push_table-clause-err g c =
    let e = c.in-Err-push_table.error in
    let switches = (g.P.Read.leads c.args.pools.now) in
    let f = flows.Switches c.args.effect.target in
    let refused =
    subst (λ (s : State). RefusesTargetOf c.args.starts.now.starts c.args.chunk.now c.args.here.at (targets_for switches f) e ⊎ RefusesSwitch switches f s c.args.traversal.now.sent e)
    c.with-after.ensures c.in-Err-push_table.ensures.err in
    refused_there _ c.args.chunk.now _ _ _ _ _ _ _ c.args.effect.target e c.in-Switches.is (record { iterators = omega arith; handlers = omega arith }) refused

pub returns-in-Err-push_ended-clause-err : goal.returns-in-Err-push_ended-clause-err
returns-in-Err-push_ended-clause-err g c =
    ended_refused _ c.args.chunk.now _ _ _ _ _ _ c.args.effect.target c.in-Err-push_ended.error c.in-AdvancesIterator.is c.in-Err-push_ended.ensures.err

pub returns-in-Err-push_armed-clause-err : goal.returns-in-Err-push_armed-clause-err
returns-in-Err-push_armed-clause-err g c =
    refused_there _ c.args.chunk.now _ _ _ _ _ _ _ c.args.effect.target c.in-Err-push_armed.error c.in-PushesHandler.is
    (record { iterators = omega arith; handlers = omega arith }) (inl c.in-Err-push_armed.ensures.err)

pub returns-in-Ok-without_handler-clause-met : goal.returns-in-Ok-without_handler-clause-met
returns-in-Ok-without_handler-clause-met g c =
    rw c.in-PopsHandler.is (record { iterators = omega arith; handlers = some_list c.args.lists.now c.args.here.state.list c.in-Ok-without_handler.ensures.same.0 })
