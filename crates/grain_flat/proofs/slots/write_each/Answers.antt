use Rattle.std.proofs.Common.{◌≡◌, ◌∷◌, ◌++◌, [], ◌∙◌, arith, ap, map, sym, take, subst}
use Rattle.std.proofs.lemmas.List.{length-set, take_more, take_more_set}
use Rattle.std.proofs.lemmas.Slice.Zip.{all_zipped_more}
use Rattle.grain_code.specs.Span.{Span}
use Rattle.grain_flat.specs.Slots.{row_slot}
use Rattle.grain_needs.specs.Slots.{AreSlots}
use Rattle.grain_flat.proofs.slots.write_each.Goals as goal

pub loop-index-preserved : goal.loop-index-preserved
loop-index-preserved c =
    let chunks = c.args.chunks.now in
    let slots = c.loop-index.slots in
    let i = c.loop-index.index in
    let count = c.chunk_slots.result in
    let long = c.loop-index.invariant.long in
    let chunk : Span = c.index-chunks-index.result in
    let R = AreSlots (map row_slot c.args.chains.now.rows.now) c.args.code.now in
    let same : c.chunk_of.result ≡ chunk = c.chunk_of.ensures in
    let here : R chunk count = subst (λ (s : Span). R s count) same c.chunk_slots.ensures in
    record {
      long = length-set slots i count ∙ long;
      counted = rw (take_more chunks i chunk (omega arith) ∙ ap (λ (s : Span). take i chunks ++ s ∷ []) (sym c.index-chunks-index.is), take_more_set slots i count (omega arith))
          (all_zipped_more R (take i chunks) (take i slots) chunk count c.loop-index.invariant.counted here);
    }
