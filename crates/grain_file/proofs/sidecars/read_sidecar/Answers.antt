use Rattle.std.proofs.Common.{arith}
use Rattle.grain_file.specs.SidecarFile.{sidecar_format, sidecar_parts}
use Rattle.grain_file.proofs.AllBytes.{result_exact}
use Rattle.grain_file.proofs.SidecarFiles.{sidecar_found, sidecar_only}
use Rattle.grain_file.proofs.sidecars.read_sidecar.Goals as goal

pub returns-clause-found : goal.returns-clause-found
returns-clause-found c = sidecar_found c.args.limits.now c.args.bytes.now c.read_all.result (omega arith) (record { each = λ i. omega (arith, c.type_inv.bytes i) }) c.read_all.ensures

pub returns-clause-only : goal.returns-clause-only
returns-clause-only c = sidecar_only c.args.limits.now c.args.bytes.now c.read_all.result c.read_all.ensures

pub returns-clause-exact : goal.returns-clause-exact
returns-clause-exact c = result_exact sidecar_format sidecar_parts c.args.limits.now c.args.bytes.now c.read_all.result (record { each = λ i. omega (arith, c.type_inv.bytes i) }) c.read_all.ensures
