use Rattle.std.proofs.Common.{◌≡◌, ◌<◌, ◌∙◌, List, ℕ, ap, arith, length, subst, sym}
use Rattle.grain_c.proofs.text.grain_proved_refusal_text.Goals as goal

pub returns-in-Some-clause-no_refusal : goal.returns-in-Some-clause-no_refusal
returns-in-Some-clause-no_refusal c =
    let size : c.print.result ≡ length c.in-Some.line.items = c.print.ensures.size ∙ ap (λ (xs : List ℕ). length xs) c.as_slice.ensures.value in
    let some = c.in-Some.ensures.long in (
      λ zero. absurd (omega arith),
      λ none. absurd (none c.in-Some.line.items c.in-Some.ensures.some),
    )
