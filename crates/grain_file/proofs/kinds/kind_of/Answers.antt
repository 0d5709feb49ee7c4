use Rattle.grain_file.proofs.KnownKinds.{known_program, known_sidecar}
use Rattle.grain_file.proofs.kinds.kind_of.Goals as goal

pub returns-clause-program : goal.returns-clause-program
returns-clause-program c bounds k file = known_program c.args.bytes.now c.head_kind.result bounds k c.head_kind.ensures file

pub returns-clause-sidecar : goal.returns-clause-sidecar
returns-clause-sidecar c k file = known_sidecar c.args.bytes.now c.head_kind.result k c.head_kind.ensures file
