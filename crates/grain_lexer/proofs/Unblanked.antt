-- Behind the blanks there is none.
use Rattle.std.proofs.Common.{◌≡◌, ℕ, List, not, drop, ap, arith, inl, inr}
use Rattle.std.specs.List.{position_or_len}
use Rattle.std.proofs.Math.Nat.{eq-or-lt_of_le}
use Rattle.std.proofs.lemmas.List.Sums.{prefix_len-le-length, prefix_len-drop_all, prefix_len-drop_no, passes_at_first}
use Rattle.grain_lexer.specs.Blanks.{is_mark, unblanked}

none_left : (line : List ℕ) → position_or_len is_mark (unblanked line) ≡ 0
none_left line =
    elim (eq-or-lt_of_le (prefix_len-le-length (λ b. not (is_mark b)) line)) [
      | inl all ↦ prefix_len-drop_all (λ b. not (is_mark b)) line _ (omega arith)
      | inr some ↦ prefix_len-drop_no (λ b. not (is_mark b)) line _ 0 some (ap not (passes_at_first is_mark line 0 some))
    ]

pub unblanked-unblanked : (line : List ℕ) → unblanked (unblanked line) ≡ unblanked line
unblanked-unblanked line = ap (λ (n : ℕ). drop n (unblanked line)) (none_left line)
