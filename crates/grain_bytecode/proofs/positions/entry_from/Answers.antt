use Rattle.std.proofs.Common.{Option, subst, arith}
use Rattle.grain_base.specs.AddressTable.{Entry}
use Rattle.grain_bytecode.proofs.DueEntries.{Skipped, skipped_more}
use Rattle.grain_bytecode.proofs.positions.entry_from.Goals as goal

pub loop-next-preserved : goal.loop-next-preserved
loop-next-preserved c =
    let read = subst (λ (next : Option Entry). Skipped c.args.at c.args.read c.args.entries.now next c.loop-next.entries) c.in-Some.is c.loop-next.invariant in
    skipped_more c.args.at c.args.read c.args.entries.now (c.in-Some.address, c.in-Some.field-0-1) c.loop-next.entries _ _ read (omega arith) c.next-next.ensures.steps
