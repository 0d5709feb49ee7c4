use Rattle.std.proofs.Common.{ℕ, List, ◌++◌}
use Rattle.grain_lexer.specs.Literals.{IsLiteral}
use Rattle.grain_lexer.proofs.literals.read_bytes.Given as goal

-- what the rest stands for follows what was read
abbrev pub invariant-loop-turn : goal.invariant-loop-turn
invariant-loop-turn l = (bytes more : List ℕ) → IsLiteral l.quote l.cursor.left.now bytes more
    → IsLiteral l.quote l.initial.cursor.left.now (l.bytes.items ++ bytes) more
