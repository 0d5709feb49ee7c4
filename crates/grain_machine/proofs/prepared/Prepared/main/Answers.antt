use Rattle.std.proofs.Common.{◌<◌, Some, ap, sym, subst, length, arith}
use Rattle.std.proofs.lemmas.Option.{slice_get-get_or}
use Rattle.grain.specs.Program.{Program}
use Rattle.grain_machine.specs.Decoded.{AreDecoded}
use Rattle.grain_machine.proofs.Chunks.{depths_long, parts_verified, runnable}
use Rattle.grain_machine.proofs.prepared.Prepared.main.Goals as goal

pub invariant_of-result : goal.invariant_of-result
invariant_of-result c =
    let v = c.self.inside.verified in
    let program = c.program-program.result.now in
    let depths = c.depths-depths.result.now in
    let parts = parts_verified v program depths c.program-program.ensures.verified c.program-program.ensures.program c.depths-depths.ensures.depths in
    let l = depths_long _ parts in
    let long : 0 < length depths = omega arith in
    let decoded = subst (AreDecoded v.program (length v.program.code)) (sym c.as_slice.ensures.value) c.self.invariant in (
      runnable _ 0 _ _ parts (ap Some (sym c.main.ensures)) (slice_get-get_or depths 0 0 long),
      parts,
      subst (λ (p : Program). AreDecoded p (length p.code) c.as_slice.result.now) (sym c.program-program.ensures.program) decoded,
    )
