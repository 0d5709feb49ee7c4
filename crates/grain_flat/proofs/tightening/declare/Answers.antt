use Rattle.std.proofs.Common.{◌≡◌, ◌<◌, ◌∙◌, length, slice_index_or, refl, ap, arith}
use Rattle.std.proofs.Math.Seq.{map-set_same}
use Rattle.std.proofs.lemmas.List.{length-set}
use Rattle.grain_code.specs.Span.{Span, undeclared_chunk}
use Rattle.grain_flat.proofs.Redeclared.{declared_next}
use Rattle.grain_flat.proofs.tightening.declare.Goals as goal

pub loop-index-preserved : goal.loop-index-preserved
loop-index-preserved c =
    let h = c.loop-index.invariant in
    let i = c.loop-index.index in
    let chunks = c.loop-index.chunks in
    let old = c.index-chunks-index.result in
    let chunk : Span = record { entry = c.chunk.inside.entry; end = c.chunk.inside.end; max_stack = slice_index_or c.args.depths.now i 0 } in
    let inside : i < length chunks = omega arith in
    let numbered : i < length c.args.depths.now = omega arith in
    let same : undeclared_chunk chunk ≡ undeclared_chunk (slice_index_or chunks i old) = ap undeclared_chunk c.chunk.view_is in
    record {
      long = length-set chunks i chunk ∙ h.long;
      declared = declared_next chunks c.args.depths.now i chunk 0 inside numbered refl h.declared;
      rest = map-set_same undeclared_chunk chunks i chunk old same ∙ h.rest;
    }
