use Rattle.std.proofs.Common.{◌≡◌, ◌∙◌, ℕ, List, [], ◌∷◌, ◌++◌, ap, sym, subst, append_assoc}
use Rattle.std.proofs.lemmas.List.{append-nil}
use Rattle.grain_lexer.specs.Literals.{IsLiteral, unit}
use Rattle.grain_lexer.proofs.Fronts.{another, ended}
use Rattle.grain_lexer.proofs.literals.read_bytes.Goals as goal

pub returns-in_default : goal.returns-in_default
returns-in_default c =
    subst (λ (xs : List ℕ). IsLiteral c.args.quote c.args.cursor.now.left.now xs c.read_unit.new.cursor.left.now) (append-nil c.loop-turn.bytes.items)
    (c.loop-turn.invariant [] c.read_unit.new.cursor.left.now (ended c.args.quote _ _ _ c.in_ok-byte.ensures c.in_default.is))

pub loop-turn-preserved : goal.loop-turn-preserved
loop-turn-preserved c = λ (bytes : List ℕ) (more : List ℕ) rest.
    let joined : c.push.new.self.items ++ bytes ≡ c.loop-turn.bytes.items ++ (c.in-Some.byte ∷ bytes) =
    ap (λ (xs : List ℕ). xs ++ bytes) c.in_ok-push.ensures.items ∙ append_assoc c.loop-turn.bytes.items (c.in-Some.byte ∷ []) bytes in
    subst (λ (xs : List ℕ). IsLiteral c.args.quote c.args.cursor.now.left.now xs more) (sym joined)
    (c.loop-turn.invariant (c.in-Some.byte ∷ bytes) more (unit (another c.args.quote _ _ _ _ c.in_ok-byte.ensures c.in-Some.is) rest))
