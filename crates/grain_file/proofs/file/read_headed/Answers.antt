use Rattle.grain_file.specs.ProgramFile.{bounds_of, file_format, versioned_format}
use Rattle.grain_file.proofs.Whole.{magic_reads}
use Rattle.grain_file.proofs.file.read_headed.Goals as goal

pub returns : goal.returns
unfolding file_format
returns c =
    magic_reads (versioned_format (bounds_of c.args.limits.now)).reading c.args.cursor.now.left.now c.expect.new.self.left.now c.expect-2.new.self.left.now c.expect-3.new.self.left.now c.expect-4.new.self.left.now _ _ _ _ _
    c.in_ok-expect.ensures c.in_ok-expect-2.ensures c.in_ok-expect-3.ensures c.in_ok-expect-4.ensures c.in_ok-program.ensures
