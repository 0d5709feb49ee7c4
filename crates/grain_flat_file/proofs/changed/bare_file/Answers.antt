use Rattle.std.proofs.lemmas.Result.{IfOk-weaker}
use Rattle.grain_flat_file.proofs.changed.bare_file.Goals as goal

pub returns-in-Ok : goal.returns-in-Ok
returns-in-Ok c = IfOk-weaker c.file_of.result _ _ (λ file its. (c.strip_positions.new.self, c.in-Ok.ensures.stripped, its)) c.file_of.ensures
