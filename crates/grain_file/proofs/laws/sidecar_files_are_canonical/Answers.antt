use Rattle.grain_file.proofs.SidecarFiles.{one_sidecar, one_sidecar_file}
use Rattle.grain_file.proofs.laws.sidecar_files_are_canonical.Goals as goal

pub returns-clause-one_file : goal.returns-clause-one_file
returns-clause-one_file c = one_sidecar_file

pub returns-clause-one_sidecar : goal.returns-clause-one_sidecar
returns-clause-one_sidecar c = one_sidecar
