use Rattle.grain_flat_file.proofs.FlatForm.{are_typed, is_accepted, is_refused}
use Rattle.grain_flat_file.proofs.laws.verdicts_are_of_the_program.Goals as goal

pub returns-clause-accepted : goal.returns-clause-accepted
returns-clause-accepted c p form numbers f h = is_accepted p form f numbers h

pub returns-clause-typed : goal.returns-clause-typed
returns-clause-typed c p form numbers f h = are_typed p form f numbers h

pub returns-clause-refused : goal.returns-clause-refused
returns-clause-refused c p form place e f h = is_refused p form f place e h
