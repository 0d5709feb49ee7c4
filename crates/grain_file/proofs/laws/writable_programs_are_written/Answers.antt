use Rattle.grain_file.proofs.Writable.{writable}
use Rattle.grain_file.proofs.laws.writable_programs_are_written.Goals as goal

pub returns : goal.returns
returns c = writable
