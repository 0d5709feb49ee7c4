use Rattle.std.proofs.Common.{ℕ, List, inr, subst, sym}
use Rattle.grain_lexer.specs.Blanks.{ReadsText}
use Rattle.grain_lexer.proofs.ReadNumbers.{quoted_again, text_again}
use Rattle.grain_lexer.proofs.literals.read_text_or_word.Goals as goal

pub returns-then-is_text : goal.returns-then-is_text
returns-then-is_text c = quoted_again c.args.cursor.now.left.now _ _ c.read_text.result c.is_text.ensures c.read_text.ensures

pub returns : goal.returns
returns c =
    let line = c.args.cursor.now.left.now in
    let left = c.word.new.self.left.now in
    inr (subst (λ (text : List ℕ). ReadsText line text left) (sym c.in_ok-text.ensures.ok) (text_again line _ c.in_ok-word.word.now left c.is_text.ensures c.in_ok-word.ensures))
