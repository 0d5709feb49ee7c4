use Rattle.grain_format.proofs.TextReads.{text_found, text_lost}
use Rattle.grain_format.proofs.cursor.Cursor.text.Goals as goal

pub returns-in-Ok : goal.returns-in-Ok
returns-in-Ok c = text_found _ _ _ _ c.in_ok-bytes.ensures c.in-Ok.ensures.cases

pub returns-in-Err : goal.returns-in-Err
returns-in-Err c = text_lost _ _ _ c.in_ok-bytes.ensures c.in-Err.ensures.cases.0
