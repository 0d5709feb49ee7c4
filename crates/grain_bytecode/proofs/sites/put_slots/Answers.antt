use Rattle.std.proofs.Common.{◌∷◌, [], ◌++◌, ◌∙◌, ap, sym, append_assoc}
use Rattle.grain_pools.specs.ChainPositions.{positions_left}
use Rattle.grain_bytecode.specs.ChainStream.{numbers_of}
use Rattle.grain_bytecode.proofs.SlotStreams.{appends_more, flat_map-push}
use Rattle.grain_bytecode.proofs.sites.put_slots.Goals as goal

pub loop-position-preserved : goal.loop-position-preserved
loop-position-preserved c =
    let done = c.loop-position.yielded in
    let here = c.in-Some.position in
    record {
      before = c.loop-position.invariant.before ∙ ap (λ left. done ++ left) c.in-Some.ensures.steps ∙ sym (append_assoc done (here ∷ []) (positions_left c.next.new.self));
      written = rw (flat_map-push numbers_of done here) (appends_more _ _ _ _ _ c.loop-position.invariant.written c.in_ok-put_slot.ensures.ok);
    }
