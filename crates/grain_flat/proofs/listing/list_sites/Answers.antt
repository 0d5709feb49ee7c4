use Rattle.std.proofs.Common.{◌≡◌, ◌<◌, ◌^◌, ◌++◌, ◌∷◌, [], refl, arith, rules, subst, sym, ◌∙◌}
use Rattle.std.proofs.lemmas.List.{length-append}
use Rattle.grain_base.proofs.Numbers.{begins_at}
use Rattle.grain_bytecode.specs.ChainStream.{site_of}
use Rattle.grain_bytecode.proofs.Streams.{Slots, flawless, slots_broken, slots_more, slots_none, slots_whole, uncounted, unreadable}
use Rattle.grain_flat.specs.Listing.{place_row}
use Rattle.grain_flat.proofs.Listed.{filled_none, mapped_more}
use Rattle.grain_flat.proofs.listing.list_sites.Goals as goal

pub returns-in_default-clause-none : goal.returns-in_default-clause-none
returns-in_default-clause-none c slots is = flawless _ _ (slots, is) (unreadable _ _ (uncounted _ _ ((c.in_default.ensures.error c.in_default.field-0).0 refl)))

pub slots-init : goal.slots-init
slots-init c =
    let fits : c.in-Ok.count < 2 ^ 32 = search rules in
    ([], slots_none _ c.in-Ok.count c.u32.new.at (begins_at _ _ _ _ c.in-Ok.ensures.found fits) c.in-Ok.ensures.found.0, refl, filled_none c.args.room.now)

pub returns-in_default-next_slot-clause-none : goal.returns-in_default-next_slot-clause-none
returns-in_default-next_slot-clause-none c slots is =
    flawless _ _ (slots, is) (unreadable _ _ (slots_broken _ c.in-Ok.count c.slots.turn c.slots.at _ _ c.slots.invariant.1 (omega arith) c.in_default-next_slot.ensures.err))

pub returns-in_default-next_slot-clause-kept : goal.returns-in_default-next_slot-clause-kept
returns-in_default-next_slot-clause-kept c =
    absurd (flawless _ _ (c.check.ensures.ok.0 (search rules)) (unreadable _ _ (slots_broken _ c.in-Ok.count c.slots.turn c.slots.at _ _ c.slots.invariant.1 (omega arith) c.in_default-next_slot.ensures.err)))

pub slots-preserved : goal.slots-preserved
slots-preserved c =
    let ok = c.in-Ok-next_slot.ensures.ok in
    let done = c.slots.invariant in (
      done.0 ++ site_of ok.0 ok.1 ∷ [],
      slots_more _ _ c.slots.turn c.slots.at c.next_slot.new.at ok.0 ok.1 _ done.1 ok.2 c.in-Ok-next_slot.ensures.inside,
      omega (arith, done.2, length-append done.0 (site_of ok.0 ok.1 ∷ [])),
      mapped_more place_row done.0 c.args.room.now c.slots.room c.put_at.new.room c.slots.turn (site_of ok.0 ok.1) done.3 done.2
          (rw (← ok.3, ← c.place_of.ensures) c.put_at.ensures),
    )

pub returns-clause-some : goal.returns-clause-some
returns-clause-some c =
    let done = c.slots.invariant in
    let all : c.slots.turn ≡ c.in-Ok.count = omega arith in (
      done.0,
      slots_whole _ c.in-Ok.count c.slots.at _ (subst (λ turns. Slots c.args.stream.now c.in-Ok.count turns c.slots.at done.0) all done.1) (c.check.ensures.ok.0 (search rules)),
      sym all ∙ done.2,
      done.3,
    )
