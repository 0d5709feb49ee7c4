use Rattle.std.proofs.Common.{◌≡◌, ◌∙◌, ◌++◌, drop, length}
use Rattle.grain_c.specs.Changed.{LentPair}
use Rattle.grain_c.specs.Files.{limits_of}
use Rattle.grain_c.proofs.ChangedAnswers.{one_is_long, stripped, too_short}
use Rattle.grain_c.proofs.changed.grain_proved_file_strip.Goals as goal

pub returns-then-not-fit : goal.returns-then-not-fit
returns-then-not-fit c =
    let files = c.in-Ok.files in
    let old : LentPair = record { room = c.args.stripped.now; size = c.args.size.now; sidecar_room = c.args.sidecar.now; sidecar_size = c.args.sidecar_size.now; error = c.args.error.now } in
    let limits : c.limits_of.result ≡ limits_of c.args.limits.now = c.limits_of.ensures in
    let size : c.len.result ≡ length files.program.items = c.len.ensures ∙ files.program.ok.0 in
    let sidecar_size : c.len-in-Ok.result ≡ length files.sidecar.items = c.len-in-Ok.ensures ∙ files.sidecar.ok.0 in
    let long = one_is_long (length files.program.items) (length c.args.stripped.now) (length files.sidecar.items) (length c.args.sidecar.now) c.fit.result c.fit.ensures c.if-not-fit.true in
    rw (size, sidecar_size, ← limits) (too_short c.limits_of.result c.args.bytes.now old files c.in-Ok.ensures.files long)

pub returns-else-not-fit : goal.returns-else-not-fit
returns-else-not-fit c =
    let files = c.in-Ok.files in
    let old : LentPair = record { room = c.args.stripped.now; size = c.args.size.now; sidecar_room = c.args.sidecar.now; sidecar_size = c.args.sidecar_size.now; error = c.args.error.now } in
    let limits : c.limits_of.result ≡ limits_of c.args.limits.now = c.limits_of.ensures in
    let size : c.len.result ≡ length files.program.items = c.len.ensures ∙ files.program.ok.0 in
    let sidecar_size : c.len-in-Ok.result ≡ length files.sidecar.items = c.len-in-Ok.ensures ∙ files.sidecar.ok.0 in
    let program : c.deref.result.now ≡ files.program.items = c.deref.ensures.value in
    let sidecar : c.deref-in-Ok.result.now ≡ files.sidecar.items = c.deref-in-Ok.ensures.value in
    let room : c.put.new.room ≡ c.deref.result.now ++ drop (length c.deref.result.now) c.args.stripped.now = c.put.ensures in
    let sidecar_room : c.put-in-Ok.new.room ≡ c.deref-in-Ok.result.now ++ drop (length c.deref-in-Ok.result.now) c.args.sidecar.now = c.put-in-Ok.ensures in
    rw (room, sidecar_room, program, sidecar, size, sidecar_size, ← limits) (stripped c.limits_of.result c.args.bytes.now old files c.in-Ok.ensures.files)
