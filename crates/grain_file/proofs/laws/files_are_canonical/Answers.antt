use Rattle.grain_file.proofs.Whole.{one_file, one_program, wider}
use Rattle.grain_file.proofs.laws.files_are_canonical.Goals as goal

pub returns-clause-one_file : goal.returns-clause-one_file
returns-clause-one_file c = one_file

pub returns-clause-one_program : goal.returns-clause-one_program
returns-clause-one_program c = one_program

pub returns-clause-wider : goal.returns-clause-wider
returns-clause-wider c = wider
