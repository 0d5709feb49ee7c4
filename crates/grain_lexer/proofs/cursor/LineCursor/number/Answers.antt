use Rattle.grain_lexer.proofs.ReadNumbers.{number_read}
use Rattle.grain_lexer.proofs.cursor.LineCursor.number.Goals as goal

pub returns-else-is_err : goal.returns-else-is_err
returns-else-is_err c =
    number_read c.args.self.now.left.now _ c.in_ok-word.word.now _ _ c.blanks.ensures c.in_ok-word.ensures c.number_of-number.ensures
