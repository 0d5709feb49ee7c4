use Rattle.std.proofs.Common.{◌+◌, ◌∙◌, Ok}
use Rattle.grain_base.proofs.NumberUniqueness.{reads_found, reads_spelled, reads_error, reads_cursor, reads_one}
use Rattle.grain_base.proofs.varint.u64.Goals as goal

pub returns-in-Some-clause-found : goal.returns-in-Some-clause-found
returns-in-Some-clause-found c =
    let read = c.in-Some.ensures.lookup.3 in
    reads_one _ _ _ read.0 (c.from.ensures ∙ read.1 0) (rw c.from.ensures c.if-byte-lt128.true)

pub returns-in-Some-clause-spelled : goal.returns-in-Some-clause-spelled
returns-in-Some-clause-spelled c =
    reads_spelled _ _ _ (Ok c.from.result) (returns-in-Some-clause-found c)

pub returns-in-Some-clause-error : goal.returns-in-Some-clause-error
returns-in-Some-clause-error c =
    reads_error _ _ (c.args.at.now + 1) (Ok c.from.result) (returns-in-Some-clause-found c)

pub returns-in_default-clause-found : goal.returns-in_default-clause-found
returns-in_default-clause-found c = reads_found _ _ _ _ c.groups.ensures

pub returns-in_default-clause-spelled : goal.returns-in_default-clause-spelled
returns-in_default-clause-spelled c = reads_spelled _ _ _ _ c.groups.ensures

pub returns-in_default-clause-error : goal.returns-in_default-clause-error
returns-in_default-clause-error c = reads_error _ _ _ _ c.groups.ensures

pub returns-in_default-clause-cursor : goal.returns-in_default-clause-cursor
returns-in_default-clause-cursor c = reads_cursor _ _ _ _ c.groups.ensures
