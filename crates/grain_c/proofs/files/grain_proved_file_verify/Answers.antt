use Rattle.grain_c.proofs.FileAnswers.{headline, loadable}
use Rattle.grain_c.proofs.files.grain_proved_file_verify.Goals as goal

pub returns-in-Some-clause-accepted : goal.returns-in-Some-clause-accepted
returns-in-Some-clause-accepted c is p a = headline _ _ _ _ _ _ _ _ c.verify_file_in-status.ensures is p a

pub returns-in-Some-clause-accepts : goal.returns-in-Some-clause-accepts
returns-in-Some-clause-accepts c is p a l = loadable _ _ _ _ _ _ _ _ c.verify_file_in-status.ensures is p a l

pub returns-in-None-clause-accepted : goal.returns-in-None-clause-accepted
returns-in-None-clause-accepted c is p a = headline _ _ _ _ _ _ _ _ c.verify_file_in.ensures is p a

pub returns-in-None-clause-accepts : goal.returns-in-None-clause-accepts
returns-in-None-clause-accepts c is p a l = loadable _ _ _ _ _ _ _ _ c.verify_file_in.ensures is p a l
