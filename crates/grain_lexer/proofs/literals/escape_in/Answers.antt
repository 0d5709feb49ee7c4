use Rattle.std.proofs.Common.{refl, inl, inr, arith}
use Rattle.grain_lexer.specs.Literals.{IsEscape, line_feed, carriage_return, tab, itself}
use Rattle.grain_lexer.proofs.Fronts.{at_front, hexadecimal_escape}
use Rattle.grain_lexer.proofs.literals.escape_in.Goals as goal

pub returns-in-110 : goal.returns-in-110
returns-in-110 c = at_front (λ text more. IsEscape text 10 more) c.args.text.now 110 (λ more. line_feed) (omega arith) (omega arith)

pub returns-in-114 : goal.returns-in-114
returns-in-114 c = at_front (λ text more. IsEscape text 13 more) c.args.text.now 114 (λ more. carriage_return) (omega arith) (omega arith)

pub returns-in-116 : goal.returns-in-116
returns-in-116 c = at_front (λ text more. IsEscape text 9 more) c.args.text.now 116 (λ more. tab) (omega arith) (omega arith)

pub returns-in-34 : goal.returns-in-34
returns-in-34 c = at_front (λ text more. IsEscape text 34 more) c.args.text.now 34 (λ more. itself (inl refl)) (omega arith) (omega arith)

pub returns-in-39 : goal.returns-in-39
returns-in-39 c = at_front (λ text more. IsEscape text 39 more) c.args.text.now 39 (λ more. itself (inr (inl refl))) (omega arith) (omega arith)

pub returns-in-92 : goal.returns-in-92
returns-in-92 c = at_front (λ text more. IsEscape text 92 more) c.args.text.now 92 (λ more. itself (inr (inr refl))) (omega arith) (omega arith)

pub returns-in_ok-byte-in-120 : goal.returns-in_ok-byte-in-120
returns-in_ok-byte-in-120 c = hexadecimal_escape c.args.text.now _ _ (omega arith) (omega arith) c.in_ok-byte-in-120.ensures
