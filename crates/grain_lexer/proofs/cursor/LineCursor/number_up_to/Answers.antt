use Rattle.grain_lexer.proofs.ReadNumbers.{number_again}
use Rattle.grain_lexer.proofs.cursor.LineCursor.number_up_to.Goals as goal

pub returns-clause-reads : goal.returns-clause-reads
returns-clause-reads c = number_again c.args.self.now.left.now _ _ _ c.blanks.ensures c.in_ok-number.ensures
