use Rattle.grain_file.specs.ProgramFile.{kept}
use Rattle.grain_flat_file.proofs.RestorablePrograms.{fit_too, restorable_too, strip_cause}
use Rattle.grain_flat_file.proofs.WrittenAgain.{bare_has_file, bare_written}
use Rattle.grain_flat_file.proofs.changed.strip.Goals as goal

pub bare_file-requires-clause-file : goal.bare_file-requires-clause-file
bare_file-requires-clause-file c = λ bare stripped. bare_has_file c.args.limits.now c.args.bytes.now c.in-Ok.program bare c.in-Ok.ensures.found stripped

pub returns-in-Err-restorable_positions-clause-only : goal.returns-in-Err-restorable_positions-clause-only
returns-in-Err-restorable_positions-clause-only c = λ p file fit restorable.
    let same = c.in-Ok.ensures.only (kept p) file in
    c.in-Err-restorable_positions.ensures.only (fit_too c.in-Ok.program p same fit) (restorable_too c.in-Ok.program p same restorable)

pub returns-in-Err-restorable_positions-clause-causes : goal.returns-in-Err-restorable_positions-clause-causes
returns-in-Err-restorable_positions-clause-causes c =
    strip_cause c.args.limits.now c.args.bytes.now c.in-Ok.program c.in-Err-restorable_positions.stop c.in-Ok.ensures.found c.in-Err-restorable_positions.ensures.causes

pub returns-clause-files : goal.returns-clause-files
returns-clause-files c =
    let bare = c.in_ok-bare_file.ensures in
    let positions = c.in-Ok-restorable_positions in
    bare_written c.args.limits.now c.args.bytes.now c.in-Ok.program bare.0 c.in-Ok.ensures.found positions.positions
    (record { program = c.in_ok-bare_file.field-0; sidecar = c.in_ok-write_sidecar.field-0 })
    bare.1 positions.ensures.sidecar positions.ensures.restores bare.2 c.in_ok-write_sidecar.ensures
