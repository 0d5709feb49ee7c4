use Rattle.grain_file.specs.SidecarFile.{kind_format, sidecar_format}
use Rattle.grain_file.proofs.Whole.{magic_reads}
use Rattle.grain_file.proofs.sidecars.read_headed.Goals as goal

pub returns : goal.returns
unfolding sidecar_format
returns c =
    magic_reads kind_format.reading c.args.cursor.now.left.now c.expect.new.self.left.now c.expect-2.new.self.left.now c.expect-3.new.self.left.now c.expect-4.new.self.left.now _ _ _ _ _
    c.in_ok-expect.ensures c.in_ok-expect-2.ensures c.in_ok-expect-3.ensures c.in_ok-expect-4.ensures c.in_ok-sidecar.ensures
