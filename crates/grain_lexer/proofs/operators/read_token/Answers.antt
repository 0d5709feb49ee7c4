use Rattle.std.proofs.Common.{◌∷◌, [], inl, inr, refl, string_bytes}
use Rattle.grain_lexer.proofs.ReadNumbers.{text_again}
use Rattle.grain_lexer.proofs.operators.read_token.Goals as goal

pub returns-then-is_text : goal.returns-then-is_text
returns-then-is_text c =
    let read = c.in_ok-read_text.ensures in
    inr (string_bytes c.in_ok-read_text.field-0, (read.0, text_again c.args.cursor.now.left.now c.is_text.new.cursor.left.now (34 ∷ []) read.0 c.is_text.ensures read.1, read.2), refl)

pub returns-in-Some : goal.returns-in-Some
returns-in-Some c =
    inl (c.in_ok-spelling.spelling.now, text_again c.args.cursor.now.left.now c.is_text.new.cursor.left.now c.in_ok-spelling.spelling.now c.spelling.new.self.left.now c.is_text.ensures c.in_ok-spelling.ensures, c.in-Some.ensures.found)
