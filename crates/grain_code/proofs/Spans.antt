-- The part of the code that a span is.
use Rattle.std.proofs.Common.{◌≡◌, ◌∙◌, ◌-◌, ◌+◌, ℕ, List, [], true, false, inl, inr, length, take, drop, nat_le, ap, arith}
use Rattle.std.proofs.lemmas.Bool.{cases_lt}
use Rattle.std.proofs.lemmas.Bool.Decides.{nat_tests}
use Rattle.std.proofs.lemmas.List.{drop-take, drop_all, length-take-le}
use Rattle.grain_code.specs.Span.{Span, body, front}

-- from the entry on, the code up to the end is the body
pub front_body : (s : Span) (code : List ℕ) → drop s.entry (front s code) ≡ body s code
front_body s code = elim (cases_lt s.end s.entry) [
  | inl backwards ↦
      let no : nat_le s.entry s.end ≡ false = grind (arith, nat_tests) in
      elim (cases_lt (length code) s.end) [
        | inl past ↦ let none : nat_le s.end (length code) ≡ false = grind (arith, nat_tests) in rw (none, no) (drop_all s.entry [] (omega arith))
        | inr inside ↦
            let some : nat_le s.end (length code) ≡ true = grind (arith, nat_tests) in
            rw (some, no) (drop_all s.entry (take s.end code) (omega (arith, length-take-le s.end code inside)))
      ]
  | inr forwards ↦
      let yes : nat_le s.entry s.end ≡ true = grind (arith, nat_tests) in
      elim (cases_lt (length code) s.end) [
        | inl past ↦ let none : nat_le s.end (length code) ≡ false = grind (arith, nat_tests) in rw (none, yes) (drop_all s.entry [] (omega arith))
        | inr inside ↦
            let some : nat_le s.end (length code) ≡ true = grind (arith, nat_tests) in
            let end : s.end ≡ s.entry + (s.end - s.entry) = omega arith in
            rw (some, yes) (ap (λ n. drop s.entry (take n code)) end ∙ drop-take s.entry (s.end - s.entry) code)
      ]
]
