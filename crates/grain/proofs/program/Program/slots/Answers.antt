use Rattle.std.proofs.Common.{◌≡◌, ◌+◌, ◌∷◌, ◌++◌, [], arith, sym, take, ◌∙◌, ap}
use Rattle.std.proofs.lemmas.List.{take_more}
use Rattle.std.proofs.lemmas.Slice.Zip.{all_zipped_more}
use Rattle.grain_code.specs.Span.{Span}
use Rattle.grain_needs.specs.Slots.{AreSlots, root_slots}
use Rattle.grain.proofs.program.Program.slots.Goals as goal

pub loop-chunk-preserved : goal.loop-chunk-preserved
loop-chunk-preserved c =
    let chunks = c.deref-chunk-items.result.now in
    let i = c.loop-chunk.chunk-index in
    let chunk : Span = c.chunk-item.result in
    let more : take (i + 1) chunks ≡ take i chunks ++ chunk ∷ [] = take_more chunks i chunk (omega arith) ∙ ap (λ (s : Span). take i chunks ++ s ∷ []) (sym c.chunk-item.is) in
    rw (more, c.in_ok-push.ensures.items)
    (all_zipped_more (AreSlots (root_slots c.args.self.now.chains) c.args.self.now.code) (take i chunks) c.loop-chunk.slots.items chunk c.slots_of.result c.loop-chunk.invariant c.slots_of.ensures)
