use Rattle.std.proofs.Common.{ℕ, ◌<◌, ◌+◌, List, ap, ◌∙◌, sym, subst, length, slice_get, arith}
use Rattle.std.proofs.lemmas.Option.{slice_get-get_or}
use Rattle.grain.specs.Program.{Program}
use Rattle.grain.specs.Verified.{Verified}
use Rattle.grain_machine.specs.Decoded.{AreDecoded}
use Rattle.grain_machine.proofs.Chunks.{depths_long, function_chunk, parts_verified, runnable}
use Rattle.grain_machine.proofs.prepared.Prepared.function.Goals as goal

pub bounds-depths-index : goal.bounds-depths-index
bounds-depths-index c =
    let parts = parts_verified c.self.inside.verified c.program-program.result.now c.depths-depths.result.now c.program-program.ensures.verified
    c.program-program.ensures.program c.depths-depths.ensures.depths in
    let l = depths_long _ parts in
    let same = ap (λ (p : Program). length p.functions) c.program-program.ensures.program in
    let e = ap (λ (a : Verified). length a.program.functions) c.self.view_is in
    let h = c.requires in
    omega arith

pub invariant_of-result : goal.invariant_of-result
invariant_of-result c =
    let v = c.self.inside.verified in
    let program = c.program-program.result.now in
    let depths = c.depths-depths.result.now in
    let parts = parts_verified v program depths c.program-program.ensures.verified c.program-program.ensures.program c.depths-depths.ensures.depths in
    let l = depths_long _ parts in
    let same = ap (λ (p : Program). length p.functions) c.program-program.ensures.program in
    let e = ap (λ (a : Verified). length a.program.functions) c.self.view_is in
    let h = c.requires in
    let inside : c.args.index < length program.functions = omega arith in
    let long : c.args.index + 1 < length depths = omega arith in
    let decoded = subst (AreDecoded v.program (length v.program.code)) (sym c.as_slice.ensures.value) c.self.invariant in (
      runnable _ (c.args.index + 1) _ _ parts
          (function_chunk program c.functions.result.now c.args.index c.index-functions-index.result c.functions.ensures inside)
          (slice_get-get_or depths (c.args.index + 1) 0 long),
      parts,
      subst (λ (p : Program). AreDecoded p (length p.code) c.as_slice.result.now) (sym c.program-program.ensures.program) decoded,
    )

pub returns-clause-chunk : goal.returns-clause-chunk
returns-clause-chunk c =
    let taken = ap (λ (p : Program). p.functions) c.program-program.ensures.program in
    let same = ap (λ (a : Verified). a.program.functions) c.self.view_is in
    function_chunk c.args.self.now.program c.functions.result.now c.args.index c.index-functions-index.result (c.functions.ensures ∙ taken ∙ same) c.requires

pub returns-clause-room : goal.returns-clause-room
returns-clause-room c =
    let depths = c.depths-depths.result.now in
    let parts = parts_verified c.self.inside.verified c.program-program.result.now depths c.program-program.ensures.verified
    c.program-program.ensures.program c.depths-depths.ensures.depths in
    let l = depths_long _ parts in
    let same = ap (λ (p : Program). length p.functions) c.program-program.ensures.program in
    let e = ap (λ (a : Verified). length a.program.functions) c.self.view_is in
    let h = c.requires in
    let long : c.args.index + 1 < length depths = omega arith in
    ap (λ (a : Verified). slice_get a.depths (c.args.index + 1)) (sym c.self.view_is)
    ∙ ap (λ (ds : List ℕ). slice_get ds (c.args.index + 1)) (sym c.depths-depths.ensures.depths)
    ∙ slice_get-get_or depths (c.args.index + 1) 0 long
