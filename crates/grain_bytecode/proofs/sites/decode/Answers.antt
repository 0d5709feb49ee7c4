use Rattle.std.proofs.Common.{◌≡◌, ◌+◌, ◌<◌, ◌^◌, ◌++◌, ◌∷◌, [], ap, refl, arith, rules, subst, sym, ◌∙◌}
use Rattle.grain_base.proofs.Numbers.{begins_at}
use Rattle.grain_bytecode.specs.ChainStream.{site_of}
use Rattle.grain_bytecode.proofs.Streams.{Slots, flawless, uncounted, unreadable, slots_none, slots_more, slots_broken, slots_whole}
use Rattle.grain_bytecode.proofs.sites.decode.Goals as goal
use Rattle.grain_bytecode.proofs.sites.decode.Goals.{After-from_residual-in_err-count, After-drop-sites}

no_count : (c : After-from_residual-in_err-count) → ⊥
no_count c = flawless _ _ (c.in_ok-check.ensures.ok.0 refl) (unreadable _ _ (uncounted _ _ ((c.in_err-count.ensures.error _).0 refl)))

no_slot : (c : After-drop-sites) → ⊥
no_slot c = flawless _ _ (c.in_ok-check.ensures.ok.0 refl) (unreadable _ _ (slots_broken _ c.in_ok-count.count c.slots._turn c.slots.at _ _ c.slots.invariant (omega arith) c.in_err-next_slot.ensures.err))

pub returns-in_err-count-clause-whole : goal.returns-in_err-count-clause-whole
returns-in_err-count-clause-whole c = absurd (no_count c)

pub returns-in_err-count-clause-err : goal.returns-in_err-count-clause-err
returns-in_err-count-clause-err c = absurd (no_count c)

pub returns-in_err-next_slot-clause-whole : goal.returns-in_err-next_slot-clause-whole
returns-in_err-next_slot-clause-whole c = absurd (no_slot c)

pub returns-in_err-next_slot-clause-err : goal.returns-in_err-next_slot-clause-err
returns-in_err-next_slot-clause-err c = absurd (no_slot c)

pub slots-init : goal.slots-init
slots-init c =
    let fits : c.in_ok-count.count < 2 ^ 32 = search rules in
    subst (Slots c.args.stream.now c.in_ok-count.count 0 c.u32.new.at) (sym c.in_ok-sites.ensures.items)
    (slots_none _ c.in_ok-count.count c.u32.new.at (begins_at _ _ _ _ c.in_ok-count.ensures.found fits) (c.in_ok-count.ensures.found.0))

pub slots-preserved : goal.slots-preserved
slots-preserved c =
    let ok = c.in_ok-next_slot.ensures.ok in
    let pushed : c.push.new.self.items ≡ c.slots.sites.items ++ site_of ok.0 ok.1 ∷ [] = c.in_ok-push.ensures.items ∙ ap (λ site. c.slots.sites.items ++ site ∷ []) ok.3 in
    subst (Slots c.args.stream.now c.in_ok-count.count (c.slots._turn + 1) c.next_slot.new.at) (sym pushed)
    (slots_more _ _ c.slots._turn c.slots.at c.next_slot.new.at ok.0 ok.1 _ c.slots.invariant ok.2 c.in_ok-next_slot.ensures.inside)

pub returns-clause-ok : goal.returns-clause-ok
returns-clause-ok c =
    let all : c.slots._turn ≡ c.in_ok-count.count = omega arith in
    slots_whole _ c.in_ok-count.count c.slots.at _ (subst (λ turns. Slots c.args.stream.now c.in_ok-count.count turns c.slots.at c.slots.sites.items) all c.slots.invariant) (c.in_ok-check.ensures.ok.0 refl)
