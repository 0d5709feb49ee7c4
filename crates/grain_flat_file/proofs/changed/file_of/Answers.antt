use Rattle.std.proofs.Common.{arith}
use Rattle.grain_file.specs.ProgramFile.{Bounds, kept, most_cases_of, nesting_of}
use Rattle.grain_file.proofs.Whole.{one_file}
use Rattle.grain_flat_file.proofs.changed.file_of.Goals as goal

pub returns-in-Ok : goal.returns-in-Ok
returns-in-Ok c bounds bytes is =
    let k = kept c.args.program.now in
    let own : Bounds = record { depth = nesting_of k; cases = most_cases_of k } in
    one_file own bounds c.in-Ok.file.items bytes k (c.in-Ok.ensures.file own (record { nesting = omega arith; cases = omega arith })) is

pub unreachable-requires : goal.unreachable-requires
unreachable-requires c = let h = c.requires in let bad = c.in-Err-Unkept.ensures.accepts h.bounds h.bytes h.is in cc
