use Rattle.std.proofs.Common.{sym, inr}
use Rattle.grain_lexer.proofs.ReadNumbers.{text_again}
use Rattle.grain_parse.proofs.labels.Labels.read_address.Goals as goal

pub returns-in-Some : goal.returns-in-Some
returns-in-Some c =
    let label = c.in_ok-label.label.now in
    inr (label, text_again c.args.cursor.now.left.now _ label c.word.new.self.left.now c.blanks.ensures c.in_ok-label.ensures, sym c.in-Some.ensures.value)
