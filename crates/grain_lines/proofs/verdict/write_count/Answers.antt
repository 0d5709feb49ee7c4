use Rattle.std.proofs.Common.{Ok, Err}
use Rattle.grain_lines.proofs.VerdictLaws.{adds_count}
use Rattle.grain_lines.proofs.verdict.write_count.Goals as goal

pub returns-in_ok-write-in-Ok : goal.returns-in_ok-write-in-Ok
returns-in_ok-write-in-Ok c = adds_count c.args.code.now _ _ (Ok c.in-Ok.count) c.in-Ok.ensures.counted c.in_ok-write-in-Ok.ensures.bytes

pub returns-in_ok-write-in-Err : goal.returns-in_ok-write-in-Err
returns-in_ok-write-in-Err c = adds_count c.args.code.now _ _ (Err c.in-Err.at) c.in-Err.ensures.counted c.in_ok-write-in-Err.ensures.bytes
